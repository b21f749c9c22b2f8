-- The loop of `copies`.
use Rattle.std.proofs.Common.{◌≡◌, length}
use Rattle.std.specs.Prelude.{All}
use Rattle.go_word.specs.Log.{IsWithin}
use Rattle.go_durable.proofs.file_tests.copies.Given as goal

-- so many so far, all in range
abbrev pub invariant-loop : goal.invariant-loop
invariant-loop l = record { many : length l.edges.items ≡ l.counter; within : All (IsWithin 8) l.edges.items }
