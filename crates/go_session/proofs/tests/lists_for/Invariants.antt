-- The loop of `lists_for`.
use Rattle.std.proofs.Common.{◌≡◌, ◌<◌, length, take}
use Rattle.std.specs.Prelude.{All}
use Rattle.go_script.specs.Commands.{commands_of}
use Rattle.go_script.specs.Until.{loads_in}
use Rattle.go_session.proofs.tests.lists_for.Given as goal

-- the loads so far have their numbers
abbrev pub invariant-loop-i : goal.invariant-loop-i
invariant-loop-i g l = (length l.lists.items ≡ loads_in (take l.i (commands_of l.script))) × All (λ n. n < l.loads) l.lists.items
