-- What a graph shows, and what stays while it is read.
use Rattle.std.specs.Prelude.{◌≡◌, ℕ, ◌<◌, ◌^◌, List, length, All}
use Rattle.go_word.specs.declared.edge.Edge.{Edge}
use Rattle.go_word.specs.Log.{IsWithin}

-- a graph: the entries of a log, and how many vertices there are
pub record Shown : Type 0 where
  pub log : List Edge
  pub size : ℕ

-- a log is one of a graph of so many vertices: its vertices are below that, and it has fewer than 2^32 entries
pub record IsDrawn (log : List Edge) (size : ℕ) : Type 0 where
  pub ids : All (IsWithin size) log
  pub short : length log < 2 ^ 32

-- reading leaves what is shown as it was, what is left may be read on, and the graph became it
pub record Keeps {G : Type 0} (shows : G → Shown) (ready : G → Type 0) (became : G → G → Type 0) (before after : G) : Type 0 where
  pub same_shown : shows after ≡ shows before
  pub is_ready : ready after
  pub has_become : became before after
