-- The loop of `edges_from`.
use Rattle.std.proofs.Common.{◌≡◌, length}
use Rattle.std.specs.List.{All}
use Rattle.go_word.specs.Log.{IsWithin}
use Rattle.go_word.specs.Word.{IsStorable}
use Rattle.go_bench.proofs.edges.edges_from.Given as goal

-- as many edges as turns, each fit for a file
abbrev pub invariant-loop-i : goal.invariant-loop-i
invariant-loop-i l = record { count : length l.edges.items ≡ l.i; within : All (IsWithin 65536) l.edges.items; storable : All IsStorable l.edges.items }
