-- The lists of the lines so far are held.
use Rattle.std.proofs.Common.{◌≡◌, ◌≤◌, ◌++◌, ℕ, List, take}
use Rattle.go_script.specs.Commands.{commands_of}
use Rattle.go_run.specs.Input.{names_loaded}
use Rattle.go_run.specs.Lists.{numbers_in, HoldsLists}
use Rattle.go_run.proofs.LoadLineLemmas.{names_of}
use Rattle.go_run.proofs.lists.read_lists.Given as goal

abbrev pub invariant-loop-i : goal.invariant-loop-i
invariant-loop-i g l = HoldsLists l.vertices (g.H.Shelf.texts l.fn.shelf) (numbers_in l.known) l.loads.items (names_loaded (take l.i l.scripts)) l.numbers.items
    × (g.H.Shelf.texts l.shelf ≡ g.H.Shelf.texts l.fn.shelf)
    × ((other : List ℕ) → g.H.Shelf.faults l.fn.shelf other ≤ g.H.Shelf.faults l.shelf other)

abbrev pub invariant-loop-at : goal.invariant-loop-at
invariant-loop-at g l = HoldsLists l.vertices (g.H.Shelf.texts l.fn.shelf) (numbers_in l.known) l.loads.items
    (names_loaded (take l.i l.scripts) ++ names_of (take l.at (commands_of l.script))) l.numbers.items
    × (g.H.Shelf.texts l.shelf ≡ g.H.Shelf.texts l.fn.shelf)
    × ((other : List ℕ) → g.H.Shelf.faults l.fn.shelf other ≤ g.H.Shelf.faults l.shelf other)
