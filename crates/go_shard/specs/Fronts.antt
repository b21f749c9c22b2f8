-- The fronts that a shard keeps.
use Rattle.std.specs.Prelude.{◌≡◌, ◌⊎◌, ℕ, ◌≤◌, List, All, Contains}
use Rattle.go_word.specs.declared.pin.Pin.{Pin}
use Rattle.go_shard.specs.declared.fronts.FrontRange.{FrontRange}

-- earlier ranges of fronts, and the front from which on all are kept up to the shard's own
pub record Fronts : Type 0 where
  pub earlier : List FrontRange
  pub since : ℕ

-- a front is in a range
pub record IsIn (front : ℕ) (range : FrontRange) : Type 0 where
  pub from : range.first ≤ front
  pub to : front ≤ range.last

-- a front is in one of some ranges
pub record IsInOne (front : ℕ) (ranges : List FrontRange) : Type 0 where
  pub range : FrontRange
  pub there : Contains ranges range
  pub within : IsIn front range

-- a front is the greatest up to a bound that is in one of some ranges, or another one where none is greater
pub record IsGreatest (ranges : List FrontRange) (least bound front : ℕ) : Type 0 where
  pub from : least ≤ front
  pub within : front ≤ bound
  pub one : (front ≡ least) ⊎ IsInOne front ranges
  pub greatest : (f : ℕ) → f ≤ bound → IsInOne f ranges → f ≤ front

-- a front is the least of a limit and of the fronts of some pins
pub record IsLeast (pins : List Pin) (limit front : ℕ) : Type 0 where
  pub within : front ≤ limit
  pub pinned : All (λ pin. front ≤ pin.front) pins
  pub greatest : (f : ℕ) → f ≤ limit → All (λ pin. f ≤ pin.front) pins → f ≤ front
