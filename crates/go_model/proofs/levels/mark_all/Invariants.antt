-- The loop of `mark_all`.
use Rattle.std.proofs.Common.{◌≡◌, ◌+◌, ◌≤◌, fold, take, false}
use Rattle.std.specs.Prelude.{if◌then◌else◌}
use Rattle.go_model.specs.Search.{mark, unmarked}
use Rattle.go_model.proofs.levels.mark_all.Given as goal

-- the vertices so far are marked
abbrev pub invariant-loop-v : goal.invariant-loop-v
invariant-loop-v l = record {
  marked : l.levels ≡ fold (mark l.level) l.fn.levels (take l.v-index l.list);
  counted : unmarked l.levels + (if l.more then 1 else 0) ≤ unmarked l.fn.levels;
  unless : l.more ≡ false → l.levels ≡ l.fn.levels;
}
