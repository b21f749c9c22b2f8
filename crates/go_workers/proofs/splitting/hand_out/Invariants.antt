-- The loop of `hand_out`.
use Rattle.std.proofs.Common.{◌≡◌, ◌++◌, map}
use Rattle.std.specs.Vec.Iter.{into_iter_items}
use Rattle.go_workers.proofs.splitting.hand_out.Given as goal

-- what was handed out and what is left are all
abbrev pub invariant-loop-list : goal.invariant-loop-list
invariant-loop-list l =
    ((goal.iterator-loop-list).can_next l.list-iterator × (goal.iterator-loop-list).is_finite l.list-iterator)
    × (l.out.items ++ map (λ list. list.items) (into_iter_items l.list-iterator) ≡ map (λ list. list.items) l.fn.lists.items)
