-- With the sessions so far in front, those of the scripts that are left are all.
use Rattle.std.proofs.Common.{◌≡◌, ◌≤◌, ◌+◌, ◌++◌, length}
use Rattle.std.specs.Prelude.{All}
use Rattle.std.specs.Vec.Iter.{into_iter_items}
use Rattle.go_script.specs.Places.{IsScript}
use Rattle.go_run.specs.Judged.{sessions_of, loads_of_all}
use Rattle.go_run.proofs.starting.start_sessions.Given as goal

abbrev pub invariant-loop-script : goal.invariant-loop-script
invariant-loop-script l =
    ((goal.iterator-loop-script).can_next l.script-iterator × (goal.iterator-loop-script).is_finite l.script-iterator)
    × (l.sessions.items ++ sessions_of (l.number + 1) (into_iter_items l.script-iterator) l.left ≡ sessions_of 1 l.fn.scripts.items l.fn.numbers)
    × (length l.left ≡ loads_of_all (into_iter_items l.script-iterator))
    × (l.number + length (into_iter_items l.script-iterator) ≤ 8)
    × All (λ session. IsScript session.commands) l.sessions.items
