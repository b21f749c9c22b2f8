-- How far a reading has come: with what is read so far in front, reading the rest gives what reading all gives.
use Rattle.std.proofs.Common.{◌-◌, length}
use Rattle.go_script.proofs.ReadingLemmas.{SoFar}
use Rattle.go_script.proofs.parsing.parse.Given as goal

abbrev pub invariant-loop-line : goal.invariant-loop-line
invariant-loop-line l = SoFar l.v l.text l.places l.script l.number l.from

abbrev pub decreases-loop-line : goal.decreases-loop-line
decreases-loop-line l = length l.text - l.from
