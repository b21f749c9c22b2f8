-- The loop of `retired`.
use Rattle.std.proofs.Common.{◌≡◌, ◌≤◌, ◌-◌, length, take, drop}
use Rattle.go_versions.proofs.versions.Versions.retired.Given as goal

-- the versions so far are copied
abbrev pub invariant-loop-place : goal.invariant-loop-place
invariant-loop-place l = record {
  copied : l.copy.versions ≡ take (l.place - l.first) (drop l.first l.self.versions);
  front : l.copy.retired ≡ l.fn.front;
  within : l.place ≤ length l.self.versions;
}
