-- What a search answers, and what is left where it stops.
use Rattle.std.proofs.Common.{[]}
use Rattle.std.proofs.lemmas.Result.{err_from_is_err_and}
use Rattle.go_session.proofs.BrokenLemmas.{kept_broken, memory_tells}
use Rattle.go_session.proofs.SearchLemmas.{counts_of_graph}
use Rattle.go_session.proofs.searching.bfs.Goals as goal

pub returns-in_err-unreached-clause-answers : goal.returns-in_err-unreached-clause-answers
returns-in_err-unreached-clause-answers g c =
    let told = err_from_is_err_and c.from_residual.result c.from_residual.ensures.1 in
    let stop = c.in_err-unreached.ensures.left in
    rw (told.1, told.2) (kept_broken _ _ _ _ stop.read.sees.kept stop.met)

pub returns-in_default-clause-answers : goal.returns-in_default-clause-answers
returns-in_default-clause-answers g c =
    let read = c.in_ok-unreached.ensures.left in
    kept_broken [] _ (g.S.Store.stands c.args.store.now) (g.S.Store.stands c.counts_at.new.store) read.sees.kept
    (memory_tells (g.S.Store.stands c.counts_at.new.store))

pub returns-clause-answers : goal.returns-clause-answers
returns-clause-answers g c =
    rw (c.in-Ok.ensures, c.from_vec.ensures)
    (counts_of_graph c.args.place c.args.root c.in_ok-unreached.unreached c.counts_at.new.out.items
    (g.S.Store.stands c.args.store.now) (g.S.Store.stands c.counts_at.new.store)
    c.in_ok-unreached.ensures.left c.in_ok-unreached.ensures.found)
