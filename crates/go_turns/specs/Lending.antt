-- A part in hand is lent, to be changed in place.
use Rattle.go_turns.specs.declared.hold.Hold.{Hold}

-- a hold with its turn, and another part
abbrev pub with_part : {T : Type 0} → Hold T → T → Hold T
with_part hold part = record hold { part = part }
