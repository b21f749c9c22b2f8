-- What is left where the store stops.
use Rattle.std.proofs.lemmas.Result.{err_from_is_err_and}
use Rattle.go_session.proofs.BrokenLemmas.{kept_broken}
use Rattle.go_session.proofs.putting.offer.Goals as goal

pub returns-in_err-position-clause-answers : goal.returns-in_err-position-clause-answers
returns-in_err-position-clause-answers g c =
    let told = err_from_is_err_and c.from_residual.result c.from_residual.ensures.1 in
    let stop = c.in_err-position.ensures.offers in
    rw (told.1, told.2) (kept_broken _ _ _ _ stop.kept stop.met)
