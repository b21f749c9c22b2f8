-- Turns: what a party knows and holds of each part, and what the steps on the parts make of that. `true` is the shard.
use Rattle.std.specs.Prelude.{ℕ, Bool, true, false, List, [], filter}
use Rattle.go_word.specs.declared.pin.Pin.{Pin}
use Rattle.go_core.specs.declared.part.PartState.{PartState}
use Rattle.go_core.specs.declared.home.Home.{Home}
use Rattle.go_core.specs.declared.home.Parts.{Parts}
use Rattle.go_core.specs.declared.stake.Hold.{Hold}
use Rattle.go_core.specs.declared.stake.Stake.{Stake}
use Rattle.go_core.specs.Pins.{owns_name, is_own_or_new}

-- what a party knows of a part
abbrev pub hold_of : Bool → Stake → Hold
hold_of true s = s.shard
hold_of false s = s.file

-- the home of a part
abbrev pub home_of : Bool → Parts → Home
home_of true parts = parts.shard
home_of false parts = parts.file

-- the parts with another home for one
abbrev pub with_home : Bool → Home → Parts → Parts
with_home true home parts = record parts { shard = home }
with_home false home parts = record parts { file = home }

-- the index of a part's turn word
abbrev pub turn_place : Bool → ℕ
turn_place true = 4
turn_place false = 5

-- after the party took a turn
abbrev pub having_turn : Bool → Stake → Stake
having_turn true s = record s { shard = record { front = s.shard.front; turn = true } }
having_turn false s = record s { file = record { front = s.file.front; turn = true } }

-- a pin that is put in is the party's where it owned it, or where it is new
abbrev pub is_mine : Stake → List Pin → Pin → Bool
is_mine s old pin = is_own_or_new s.pins s.put old pin

-- after a part was put in, whose pins were `old` and are `new`
abbrev pub putting : Bool → List Pin → List Pin → Stake → Stake
putting true old new s = record s { put = filter (is_mine s old) new }
putting false old new s = s

-- after a turn was given back: the part's front is known, and its pins that are the party's are those of its view
abbrev pub giving : Bool → PartState → Stake → Stake
giving true part s = record s { pins = filter (λ pin. owns_name pin.id s.pins s.put) part.pins; put = []; shard = record { front = part.front; turn = false } }
giving false part s = record s { file = record { front = part.front; turn = false } }
