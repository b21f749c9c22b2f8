-- The loop of `take_in_turns`.
use Rattle.std.proofs.Common.{◌≡◌, take}
use Rattle.go_net.specs.Net.{net_of}
use Rattle.go_net.proofs.turns.take_in_turns.Given as goal

-- the list so far is what the words so far make of it
abbrev pub invariant-loop-place : goal.invariant-loop-place
invariant-loop-place l = l.list.items ≡ net_of l.initial.list.items (take l.place l.words)
