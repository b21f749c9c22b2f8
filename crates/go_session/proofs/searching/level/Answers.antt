-- What a search answers, and what is left where it stops.
use Rattle.std.proofs.lemmas.Result.{err_from_is_err_and}
use Rattle.go_session.proofs.BrokenLemmas.{kept_broken}
use Rattle.go_session.proofs.SearchLemmas.{level_of_levels}
use Rattle.go_session.proofs.searching.level.Goals as goal

pub returns-in_err-levels_at-clause-answers : goal.returns-in_err-levels_at-clause-answers
returns-in_err-levels_at-clause-answers g c =
    let told = err_from_is_err_and c.from_residual.result c.from_residual.ensures.1 in
    let stop = c.in_err-levels_at.ensures.left in
    rw (told.1, told.2) (kept_broken _ _ _ _ stop.read.sees.kept stop.met)

pub returns-clause-answers : goal.returns-clause-answers
returns-clause-answers g c =
    level_of_levels c.args.place c.args.root c.args.vertex c.levels_at.new.out.items c.index.result.now
    (g.S.Store.stands c.args.store.now) (g.S.Store.stands c.levels_at.new.store)
    c.in_ok-levels_at.ensures.left c.in_ok-levels_at.ensures.found c.requires.there c.index.ensures
