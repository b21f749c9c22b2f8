-- The files so far were read.
use Rattle.std.proofs.Common.{◌≡◌, ◌≤◌, ℕ, List, take}
use Rattle.go_run.specs.Files.{HasRead}
use Rattle.go_run.proofs.files.read_files.Given as goal

abbrev pub invariant-loop-name : goal.invariant-loop-name
invariant-loop-name g l = HasRead l.vertices (g.H.Shelf.texts l.fn.shelf) (take l.name-index l.names) l.scripts.items
    × (g.H.Shelf.texts l.shelf ≡ g.H.Shelf.texts l.fn.shelf)
    × ((other : List ℕ) → g.H.Shelf.faults l.fn.shelf other ≤ g.H.Shelf.faults l.shelf other)
