-- The names of scripts, as they are kept.
use Rattle.std.specs.Prelude.{◌≡◌, ℕ, ◌≤◌, List, length, take, map, Option, option_copied, option_to_list}
use Rattle.std.specs.List.{flat_map}
use Rattle.std.specs.Borrow.{Bor}
use Rattle.go_run.specs.declared.limits.TheConstants.{SCRIPTS}

-- the names among the first of some places
abbrev pub names_in : List (Option (Bor (List ℕ))) → ℕ → List (List ℕ)
names_in places count = flat_map (λ place. option_to_list place) (take count (map option_copied places))

-- each of these places has a name
pub record AreNames (places : List (Option (Bor (List ℕ)))) (count : ℕ) : Type 0 where
  pub all : length (names_in places count) ≡ count
  pub few : count ≤ SCRIPTS
