-- The loop of `joined`.
use Rattle.std.proofs.Common.{◌-◌, ◌≤◌, length, map}
use Rattle.go_workers.proofs.Halves.{AreJoined}
use Rattle.go_workers.proofs.splitting.joined.Given as goal

-- the lists before the place are joined
abbrev pub invariant-loop-i : goal.invariant-loop-i
invariant-loop-i l =
    AreJoined l.i (map (λ list. list.items) l.initial.one.items) (map (λ list. list.items) l.two.items) (map (λ list. list.items) l.one.items)
    × (l.i ≤ length l.one.items)

abbrev pub decreases-loop-i : goal.decreases-loop-i
decreases-loop-i l = length l.one.items - l.i
