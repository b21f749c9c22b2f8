-- Pins by their names.
use Rattle.std.specs.Prelude.{ℕ, ◌==◌, Bool, List, find, is_some}
use Rattle.go_word.specs.declared.pin.Pin.{Pin}

-- a pin has this name
abbrev pub is_named : ℕ → Pin → Bool
is_named id pin = pin.id == id

-- one of the pins has the name
abbrev pub has_name : ℕ → List Pin → Bool
has_name id pins = is_some (find (is_named id) pins)
