-- The loop of `mark_all`.
use Rattle.std.proofs.Common.{◌≡◌, fold, take}
use Rattle.go_model.specs.Search.{mark}
use Rattle.go_kernels.specs.Steps.{KeepsFront}
use Rattle.go_kernels.proofs.search.mark_all.Given as goal

-- the vertices so far are marked, and those that had no level are listed
abbrev pub invariant-loop-v : goal.invariant-loop-v
invariant-loop-v l = record {
  marked : l.levels ≡ fold (mark l.level) l.fn.levels (take l.v-index l.list);
  front : KeepsFront l.level l.fn.levels l.levels l.fn.next.items l.next.items;
}
