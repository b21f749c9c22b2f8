-- The loop of `neighbours_of`.
use Rattle.std.proofs.Common.{◌≡◌, take}
use Rattle.go_word.specs.Neighbours.{neighbours}
use Rattle.go_word.proofs.neighbours.neighbours_of.Given as goal

-- the list so far is the neighbours after the entries so far
abbrev pub invariant-loop-edge : goal.invariant-loop-edge
invariant-loop-edge l = l.out.items ≡ neighbours (take l.edge-index l.edges) l.s
