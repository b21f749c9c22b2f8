-- What a view stands for.
use Rattle.std.specs.Prelude.{◌≡◌, ℕ, ◌+◌, ◌^◌, ◌<◌, ◌≤◌, List, length, take, drop, map, Contains}
use Rattle.go_word.specs.declared.edge.Edge.{Edge}
use Rattle.go_word.specs.Log.{entries_from, raw}
use Rattle.go_word.specs.Word.{plain_word}
use Rattle.go_shard.specs.ByVertex.{WordsByVertex, words_of}
use Rattle.go_rule.specs.declared.view.SeatView.{SeatView}
use Rattle.go_rule.specs.Rule.{pins_at}
use Rattle.go_views.specs.Counts.{Striped, count_of}
use Rattle.go_views.specs.Pins.{pin_of}

-- a view up to a front: the counts of all vertices at the archived front, the words of the entries from there on, and by place the name of its pin
pub record View : Type 0 where
  pub front : ℕ
  pub archived : ℕ
  pub counts : Striped
  pub later : WordsByVertex
  pub names : List ℕ

-- how many entries a view has of a vertex
abbrev pub degree_of : View → ℕ → ℕ
degree_of view v = count_of view.counts v + length (words_of view.later v)

-- there are words and a count for as many vertices, a pin for each shard, and what is counted is a number of 32 bits
pub record IsWhole (view : View) : Type 0 where
  pub vertices : length view.later.ends ≡ length view.counts.list
  pub shards : length view.names ≡ view.counts.shards
  pub few : (v : ℕ) → v < length view.later.ends → degree_of view v < 2 ^ 32

-- a view tells of a log's first entries, as many as its front, for so many vertices
pub record Shows (vertices : ℕ) (log : List Edge) (view : View) : Type 0 where
  pub within : view.front ≤ length log
  pub archived : view.archived ≤ view.front
  pub vertices_are : vertices ≤ length view.later.ends
  pub counts : (v : ℕ) → v < vertices → count_of view.counts v ≡ raw (take view.archived log) v
  pub later : (v : ℕ) → v < vertices → words_of view.later v ≡ map plain_word (entries_from v (drop view.archived (take view.front log)))

-- a view is a seat's: it tells of what that has seen, and has a pin of the seat in each of so many shards, at its archived front
pub record IsView {P : Type 0} (shards : ℕ) (view : View) (d : SeatView P) : Type 0 where
  pub shows : Shows d.about.vertices d.told.seen view
  pub shards_are : length view.names ≡ shards
  pub pinned : (place : ℕ) → place < shards → Contains (pins_at place d) (pin_of view.names view.archived place)
