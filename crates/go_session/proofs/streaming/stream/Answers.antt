-- What is left where the store stops.
use Rattle.std.proofs.lemmas.Result.{err_from_is_err_and}
use Rattle.go_session.proofs.BrokenLemmas.{kept_broken}
use Rattle.go_session.proofs.streaming.stream.Goals as goal

pub returns-in_err-cursor-clause-answers : goal.returns-in_err-cursor-clause-answers
returns-in_err-cursor-clause-answers g c =
    let told = err_from_is_err_and c.from_residual.result c.from_residual.ensures.1 in
    let stop = c.in_err-cursor.ensures.starts in
    rw (told.1, told.2) (kept_broken _ _ _ _ stop.sees.kept stop.met)
