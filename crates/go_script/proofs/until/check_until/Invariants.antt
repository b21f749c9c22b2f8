-- The scripts so far keep to the rule.
use Rattle.std.proofs.Common.{ℕ, ◌<◌}
use Rattle.go_script.specs.Until.{counted_of, AsksTooMuch}
use Rattle.go_script.proofs.SessionLemmas.{Reached}
use Rattle.go_script.proofs.until.check_until.Given as goal

abbrev pub invariant-loop-i : goal.invariant-loop-i
invariant-loop-i l = Reached l.scripts l.loads l.i l.from × ((j n : ℕ) → j < l.i → AsksTooMuch (counted_of l.scripts l.loads) j n → ⊥)
