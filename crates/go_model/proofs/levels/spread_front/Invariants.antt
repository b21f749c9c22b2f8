-- The loop of `spread_front`.
use Rattle.std.proofs.Common.{◌≡◌, ◌+◌, ◌≤◌, take, false}
use Rattle.std.specs.Prelude.{if◌then◌else◌}
use Rattle.go_model.specs.Search.{spread, unmarked}
use Rattle.go_model.proofs.levels.spread_front.Given as goal

-- the neighbours of the vertices so far are marked
abbrev pub invariant-loop-v : goal.invariant-loop-v
invariant-loop-v l = record {
  spread : l.levels ≡ spread l.edges l.level l.fn.levels (take l.v-index l.front);
  counted : unmarked l.levels + (if l.more then 1 else 0) ≤ unmarked l.fn.levels;
  unless : l.more ≡ false → l.levels ≡ l.fn.levels;
}
