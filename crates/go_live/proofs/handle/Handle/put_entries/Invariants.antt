-- `put_entries`: the first entries were put, one run after another.
use Rattle.std.proofs.Common.{◌≡◌, ◌≤◌, ◌-◌, length, take}
use Rattle.go_api.specs.Calls.{PutsAll}
use Rattle.go_live.specs.Going.{ServesOn}
use Rattle.go_live.specs.Handles.{IsHandle, stands_in}
use Rattle.go_live.proofs.handle.Handle.put_entries.Given as goal

abbrev pub invariant-loop-done : goal.invariant-loop-done
invariant-loop-done g l =
    let t = l.ring.table.shared in
    (l.done ≤ length l.edges) × IsHandle t.table_id t.key l.self
    × PutsAll (take l.done l.edges) l.last (stands_in t.key l.fn.self) (stands_in t.key l.self) × ServesOn l.fn.self l.self

abbrev pub decreases-loop-done : goal.decreases-loop-done
decreases-loop-done g l = length l.edges - l.done
