-- The root is judged behind the place.
use Rattle.std.proofs.Common.{sym}
use Rattle.std.proofs.lemmas.Result.{err_from_is_err_and}
use Rattle.go_script.proofs.GrammarLemmas.{pair_of-root_fault}
use Rattle.go_script.proofs.arguments.read_pair.Goals as goal

pub returns-in_err-root-clause-exact : goal.returns-in_err-root-clause-exact
returns-in_err-root-clause-exact c =
    let told = err_from_is_err_and c.from_residual-in_err-root.result c.from_residual-in_err-root.ensures.1 in
    rw (told.1, told.2) (sym (pair_of-root_fault c.args.vertices c.args.arguments.now _ _ c.in_ok-place.place c.in_err-root.field-0.0
    c.in-len3.len_at_least c.in-len3.len_below (sym c.in_ok-place.ensures.exact) (sym c.in_err-root.ensures.exact)))
