-- What is left where the store stops.
use Rattle.std.proofs.lemmas.Result.{err_from_is_err_and}
use Rattle.go_api.proofs.StandingLemmas.{kept_self}
use Rattle.go_session.proofs.BrokenLemmas.{kept_broken, memory_tells, some_broken}
use Rattle.go_session.proofs.putting.load.Goals as goal

pub returns-in_default-clause-answers : goal.returns-in_default-clause-answers
returns-in_default-clause-answers g c =
    let s = g.S.Store.stands c.args.store.now in
    kept_broken c.args.given.now _ s s (kept_self s) (memory_tells s)

pub returns-in_err-put_entries-clause-answers : goal.returns-in_err-put_entries-clause-answers
returns-in_err-put_entries-clause-answers g c =
    let told = err_from_is_err_and c.from_residual.result c.from_residual.ensures.1 in
    rw (told.1, told.2) (some_broken _ _ _ _ c.in_err-put_entries.ensures.puts)
