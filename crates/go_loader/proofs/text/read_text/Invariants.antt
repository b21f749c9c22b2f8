-- How far a reading has come: what was read stands in front of what is read of the rest.
use Rattle.std.specs.Prelude.{All}
use Rattle.go_word.specs.Log.{IsWithin}
use Rattle.std.proofs.Common.{◌≤◌, ◌-◌, length, drop}
use Rattle.std.specs.Str.Lines.{lines}
use Rattle.go_loader.specs.TextFile.{line_reads}
use Rattle.go_loader.proofs.ItemLemmas.{HasRead}
use Rattle.go_loader.proofs.text.read_text.Given as goal

abbrev pub invariant-loop-line : goal.invariant-loop-line
invariant-loop-line l = (l.from ≤ length l.text) × (l.number ≤ l.from) × All (IsWithin l.v) l.out.items
    × HasRead (line_reads l.v) (lines l.text) l.out.items l.number (lines (drop l.from l.text))

abbrev pub decreases-loop-line : goal.decreases-loop-line
decreases-loop-line l = length l.text - l.from
