-- The loop of `edges_from`.
use Rattle.std.specs.Prelude.{All}
use Rattle.go_word.specs.Log.{IsWithin}
use Rattle.go_durable.proofs.range_tests.edges_from.Given as goal

-- all so far are in range
abbrev pub invariant-loop-next : goal.invariant-loop-next
invariant-loop-next l = All (IsWithin 8) l.edges.items
