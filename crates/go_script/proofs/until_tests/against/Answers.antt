-- Counting begins before the first command.
use Rattle.std.proofs.Common.{[], ap, refl, arith}
use Rattle.go_script.specs.Commands.{commands_of}
use Rattle.go_script.specs.declared.tally.Tally.{Tally}
use Rattle.go_script.proofs.until_tests.against.Goals as goal

pub loads_in-requires-clause-stands : goal.loads_in-requires-clause-stands
loads_in-requires-clause-stands g c = rw (c.start.ensures (commands_of c.in_ok-first.first) []) refl

pub loads_in-requires-clause-within : goal.loads_in-requires-clause-within
loads_in-requires-clause-within g c = omega (arith, ap (λ (t : Tally). t.at) (c.start.ensures [] []))

pub loads_in-requires-2-clause-stands : goal.loads_in-requires-2-clause-stands
loads_in-requires-2-clause-stands g c = rw (c.start-2.ensures (commands_of c.in_ok-second.second) []) refl

pub loads_in-requires-2-clause-within : goal.loads_in-requires-2-clause-within
loads_in-requires-2-clause-within g c = omega (arith, ap (λ (t : Tally). t.at) (c.start-2.ensures [] []))
