-- What the list that the tests take for a store stands for.
use Rattle.std.specs.Prelude.{ℕ, ◌+◌, ◌<◌, ◌^◌, true, false, List, length}
use Rattle.go_word.specs.declared.edge.Edge.{Edge}
use Rattle.go_api.specs.Alone.{positions}
use Rattle.go_api.specs.Standing.{Standing, Terms, IsSound, opened_log}
use Rattle.go_api.specs.declared.place.Place.{Place}

-- the terms of a store that had no entry when it was opened: its number of vertices, and the slots of its ring
abbrev pub listed_terms : ℕ → ℕ → Terms
listed_terms vertices ring = record { first = 0; vertices = vertices; ring = ring; told = true }

-- a list of entries as such a store: the one session has put and seen all
abbrev pub listed : Terms → List Edge → ℕ → List Place → Standing
listed terms log quota places = record {
  terms = terms;
  own = positions 0 (length log);
  edges = log;
  log = opened_log log;
  quota = quota;
  places = places;
  met = false;
}

-- it can stand so, and has room for what may yet be put
pub record IsListed (vertices ring : ℕ) (log : List Edge) (quota : ℕ) (places : List Place) : Type 0 where
  pub sound : IsSound (listed (listed_terms vertices ring) log quota places)
  pub room : length log + quota < 2 ^ 32
