-- The first entries stand there, and the generator has drawn for them.
use Rattle.std.proofs.Common.{◌≤◌, ◌-◌, length}
use Rattle.go_loader.specs.Generated.{IsGenerating}
use Rattle.go_loader.proofs.generator.generate.Given as goal

abbrev pub invariant-loop-words : goal.invariant-loop-words
invariant-loop-words l = (length l.out.items ≤ l.edges) × IsGenerating l.x l.v l.out.items l.words

abbrev pub decreases-loop-words : goal.decreases-loop-words
decreases-loop-words l = l.edges - length l.out.items
