-- A view of a store as a graph: what it shows, and what reading it leaves.
use Rattle.std.specs.Prelude.{◌≡◌, ℕ, get_or, take, true, Option, Some, None, Result, Ok, Err}
use Rattle.go_model.specs.Graph.{Shown}
use Rattle.go_api.specs.Calls.{Holds, IsRead, IsReadStopped}
use Rattle.go_api.specs.Standing.{Standing, IsSound}
use Rattle.go_api.specs.declared.place.Place.TheVariants.{Free, View}
use Rattle.go_api.specs.declared.stop.Stop.{Stop}
use Rattle.go_api.specs.declared.stop.Stop.TheVariants.{Disk, Memory}
use Rattle.go_api.proofs.StandingLemmas.{read_self, read_on}
use Rattle.go_session.specs.Cut.{shown_at}

-- the view at a place as a graph: the entries that it shows, over the vertices of the store
abbrev pub graph_at : ℕ → Standing → Shown
graph_at place s = record { log = take (shown_at (get_or s.places place Free)) s.log.seen; size = s.terms.vertices }

-- a view can be searched
pub record IsViewAt (place : ℕ) (s : Standing) : Type 0 where
  pub sound : IsSound s
  pub front : ℕ
  pub held : Holds place (View front) s

-- where it is kept that the disk failed, a fault of it was met
abbrev pub KeepsMet : Option Stop → Standing → Type 0
KeepsMet stop s = stop ≡ Some Disk → s.met ≡ true

-- a store was read, and why it stopped was kept
pub record ReadsOn (before after : Standing) (old new : Option Stop) : Type 0 where
  pub read : IsRead before after
  pub met : KeepsMet old before → KeepsMet new after

pub reads_self : (s : Standing) (stop : Option Stop) → ReadsOn s s stop stop
reads_self s stop = record { read = read_self s; met = λ met. met }

pub reads_on : (one two three : Standing) (a b c : Option Stop) → ReadsOn one two a b → ReadsOn two three b c → ReadsOn one three a c
reads_on one two three a b c first later = record { read = read_on one two three first.read later.read; met = λ met. later.met (first.met met) }

-- what a search leaves of the store, and why it stopped
abbrev pub Leaves : {T : Type 0} → Result T Stop → Standing → Standing → Type 0
Leaves (Ok done) before after = IsRead before after
Leaves (Err why) before after = IsReadStopped why before after

-- why a kernel stopped that found no memory: for what was kept, or for want of memory of its own
abbrev pub why_of : Option Stop → Stop
why_of None = Memory
why_of (Some why) = why
