-- The fronts of the views of a session.
use Rattle.std.specs.Prelude.{◌≡◌, ◌⊎◌, ℕ, ◌≤◌, List, [], ◌∷◌, All, Contains}
use Rattle.go_api.specs.declared.place.Place.{Place}
use Rattle.go_api.specs.declared.place.Place.TheVariants.{Free, View, Stream}

-- the fronts of the views at places
abbrev pub views_of : List Place → List ℕ
views_of [] = []
views_of (Free ∷ places) = views_of places
views_of (View front ∷ places) = front ∷ views_of places
views_of (Stream cursor ∷ places) = views_of places

-- a number is the least of a bound and some fronts
pub record IsLeast (bound : ℕ) (fronts : List ℕ) (least : ℕ) : Type 0 where
  pub within : least ≤ bound
  pub below : All (λ n. least ≤ n) fronts
  pub one : (least ≡ bound) ⊎ Contains fronts least
