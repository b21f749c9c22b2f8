-- Whom a vertex reaches by one edge after a log.
use Rattle.std.specs.Prelude.{◌↔◌, ℕ, List, Contains}
use Rattle.std.specs.List.Sorted.{IsStrictlyIncreasing}
use Rattle.go_word.specs.declared.edge.Edge.{Edge}
use Rattle.go_word.specs.Neighbours.{neighbours}

-- the neighbours of a vertex, each once, ascending
pub record IsHop (log : List Edge) (v : ℕ) (list : List ℕ) : Type 0 where
  pub rises : IsStrictlyIncreasing list
  pub members : (x : ℕ) → Contains list x ↔ Contains (neighbours log v) x
