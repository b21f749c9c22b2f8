-- A file that was read: what its bytes stand for, and where.
use Rattle.std.specs.Prelude.{ℕ, List}
use Rattle.go_word.specs.declared.edge.Edge.{Edge}
use Rattle.go_blocks.specs.declared.log_file.BlockPlace.{BlockPlace}

-- the number of vertices, the entries, the places of the blocks, and that of the closed gate
pub record Log : Type 0 where
  pub vertices : ℕ
  pub edges : List Edge
  pub blocks : List BlockPlace
  pub gate : ℕ
