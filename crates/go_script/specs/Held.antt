-- What a table of the places tells of the commands before.
use Rattle.std.specs.Prelude.{◌≡◌, ℕ, ◌<◌, List, slice_get, Some}
use Rattle.go_api.specs.declared.place.TheConstants.{PLACES}
use Rattle.go_script.specs.declared.command.Command.{Command}
use Rattle.go_script.specs.declared.places.Places.{Places}
use Rattle.go_script.specs.Places.{kind_at}

-- the table has for each place what stands there after these commands
pub record Tells (places : Places) (commands : List Command) : Type 0 where
  pub each : (k : ℕ) → k < PLACES → slice_get places.held k ≡ Some (kind_at k commands)
