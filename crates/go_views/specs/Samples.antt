-- What the tests ask of two views.
use Rattle.std.specs.Prelude.{◌≢◌, ℕ, ◌<◌, get_or}
use Rattle.go_views.specs.Views.{View}

-- the pins of two views have other names in each of the two shards
abbrev pub AreApart : View → View → Type 0
AreApart one other = (place : ℕ) → place < 2 → get_or one.names place 0 ≢ get_or other.names place 0
