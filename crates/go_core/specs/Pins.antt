-- Which names of pins are a party's own.
use Rattle.std.specs.Prelude.{ℕ, ◌||◌, not, Bool, List}
use Rattle.go_word.specs.declared.pin.Pin.{Pin}
use Rattle.go_word.specs.Pins.{has_name}

-- a party owns the name, by the pins that its view holds and those that it put in since it took the shard's turn
abbrev pub owns_name : ℕ → List Pin → List Pin → Bool
owns_name id pins put = has_name id pins || has_name id put

-- a pin that is put in is the party's where it owned the name, or where none had it before
abbrev pub is_own_or_new : List Pin → List Pin → List Pin → Pin → Bool
is_own_or_new pins put old pin = owns_name pin.id pins put || not (has_name pin.id old)
