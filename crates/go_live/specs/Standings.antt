-- What a session's handle of a ring stands for.
use Rattle.std.specs.Prelude.{ℕ, Bool, List, map, take}
use Rattle.go_word.specs.declared.edge.Edge.{Edge}
use Rattle.go_api.specs.Standing.{Standing}
use Rattle.go_api.specs.declared.place.Place.{Place}
use Rattle.go_api.specs.declared.place.Place.TheVariants as places
use Rattle.go_core.specs.declared.entry.Entry.{Entry}
use Rattle.go_rule.specs.declared.view.SeatView.{SeatView}
use Rattle.go_live.specs.declared.held.Held.{Held}
use Rattle.go_live.specs.declared.held.Held.TheVariants.{Free, View, Stream}

-- what a session keeps beside its seat: how much of the log it was shown, the position behind its last entry, what it has at its places, and whether a
-- fault of the disk was met
pub record Kept : Type 0 where
  pub seen : ℕ
  pub next : ℕ
  pub held : List Held
  pub met : Bool

-- what stands at a place
abbrev pub place_of : Held → Place
place_of Free = places.Free
place_of (View view) = places.View view.front
place_of (Stream stream) = places.Stream stream.cursor

-- where entries stand, and what they are
abbrev pub positions_of : List Entry → List ℕ
positions_of xs = map (λ (x : Entry). x.at) xs

abbrev pub edges_of : List Entry → List Edge
edges_of xs = map (λ (x : Entry). x.edge) xs

-- what a seat knows with what its session keeps, over a ring of so many slots: of what the seat has seen, the first entries are the session's that it was
-- shown, and it takes no view of fewer
abbrev pub standing_of : {P : Type 0} → ℕ → Kept → SeatView P → Standing
standing_of slots kept d = record {
  terms = record { first = d.about.first; vertices = d.about.vertices; ring = slots; told = d.about.tells };
  own = positions_of d.core.own;
  edges = edges_of d.core.own;
  log = record { seen = take kept.seen d.told.seen; floor = kept.seen; known = d.core.head; durable = d.core.durable };
  quota = d.share.quota;
  places = map place_of kept.held;
  met = kept.met;
}
