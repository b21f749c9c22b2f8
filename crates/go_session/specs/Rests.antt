-- What is kept of a walk, to tell on how many of the log's first entries a reply rests.
use Rattle.std.specs.Prelude.{◌≡◌, ℕ, ◌<◌, slice_get, Some}
use Rattle.go_api.specs.declared.place.TheConstants.{PLACES}
use Rattle.go_session.specs.Cut.{shown_at}
use Rattle.go_session.specs.Walk.{Walk}
use Rattle.go_session.specs.declared.cut.Rests.{Rests}

-- the numbers are those of the walk
pub record Tracks (walk : Walk) (rests : Rests) : Type 0 where
  pub first : rests.first ≡ walk.first
  pub seen : rests.seen ≡ walk.seen
  pub shown : (k : ℕ) → k < PLACES → slice_get rests.shown k ≡ Some (shown_at (walk.place_at k))
