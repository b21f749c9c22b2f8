-- How far a reading has come: what was read stands in front of what is read of the rest.
use Rattle.std.specs.Prelude.{All}
use Rattle.go_word.specs.Log.{IsWithin}
use Rattle.std.proofs.Common.{◌≡◌, ◌+◌, ◌*◌, length}
use Rattle.go_loader.specs.BinaryFile.{pieces, piece_reads}
use Rattle.go_loader.proofs.ItemLemmas.{HasRead}
use Rattle.go_loader.proofs.binary.read_words.Given as goal

abbrev pub invariant-loop-rest : goal.invariant-loop-rest
invariant-loop-rest l = (8 * l.line + length l.rest ≡ length l.bytes) × All (IsWithin l.v) l.out.items
    × HasRead (piece_reads l.v) (pieces l.bytes) l.out.items l.line (pieces l.rest)

abbrev pub decreases-loop-rest : goal.decreases-loop-rest
decreases-loop-rest l = length l.rest
