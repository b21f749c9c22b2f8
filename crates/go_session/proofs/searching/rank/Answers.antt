-- What a search answers, and what is left where it stops.
use Rattle.std.proofs.lemmas.Result.{err_from_is_err_and}
use Rattle.go_session.proofs.BrokenLemmas.{kept_broken}
use Rattle.go_session.proofs.SearchLemmas.{rank_of_graph}
use Rattle.go_session.proofs.searching.rank.Goals as goal

pub returns-in_err-rank_at-clause-answers : goal.returns-in_err-rank_at-clause-answers
returns-in_err-rank_at-clause-answers g c =
    let told = err_from_is_err_and c.from_residual.result c.from_residual.ensures.1 in
    let stop = c.in_err-rank_at.ensures.left in
    rw (told.1, told.2) (kept_broken _ _ _ _ stop.read.sees.kept stop.met)

pub returns-clause-answers : goal.returns-clause-answers
returns-clause-answers g c = rw c.from_vec.ensures
    (rank_of_graph c.args.place c.args.count c.rank_at.new.out.items (g.S.Store.stands c.args.store.now) (g.S.Store.stands c.rank_at.new.store)
    c.in_ok-rank_at.ensures.left c.in_ok-rank_at.ensures.found)
