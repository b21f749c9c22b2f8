-- The ring of the tests, and what they ask of a store over it.
use Rattle.std.specs.Prelude.{◌≡◌, ℕ, ◌≤◌}
use Rattle.go_api.specs.Standing.{Standing, all_free}
use Rattle.go_rule.specs.declared.layout.Key.{Key}
use Rattle.go_rule.specs.declared.layout.Layout.{Layout}
use Rattle.go_rule.specs.declared.view.SeatView.{SeatView}

-- a seat is one of a ring over eight vertices, from the first position on, with two shards and 128 slots
pub record IsSample {P : Type 0} (key : Key P) (d : SeatView P) : Type 0 where
  pub layout : key.layout ≡ record { vertices = 8; ring = 128; shards = 2 }
  pub vertices : d.about.vertices ≡ 8
  pub first : d.about.first ≡ 0

-- a session may put so many entries between eight vertices, and its places are free
pub record MayBegin (most : ℕ) (s : Standing) : Type 0 where
  pub quota : most ≤ s.quota
  pub vertices : s.terms.vertices ≡ 8
  pub places : s.places ≡ all_free
