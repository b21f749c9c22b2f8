-- What a seat has in its hand of the parts whose turns are its own, how it comes to a part, and as what it gives one back.
use Rattle.std.specs.Prelude.{◌≡◌, ℕ, ◌+◌, ◌==◌, false, List, ◌∷◌, find, is_some, Option as Maybe, Some, None}
use mathlib.Core.Option.{none}
use Rattle.atomic_table.specs.Table.{Me, step}
use Rattle.go_core.specs.Frame.{Frame}
use Rattle.go_rule.specs.declared.view.Note.{Note}
use Rattle.go_rule.specs.declared.view.SeatView.{SeatView}
use Rattle.go_rule.specs.Meaning.{Meaning}
use Rattle.go_rule.specs.Turns.{giving, TakesPart, TakesTurn, CanGive}
use Rattle.go_turns.specs.declared.hold.Hold.{Hold}

module _ {P : Type 0} where
  -- a seat has the turn of a place, as the last one that it took: it noted the part as it was then, before it these others; and the place's slot lies
  -- empty in its hand, before it these
  pub record Holds (place : ℕ) (part : P) (older : List (Note P)) (slots : List (ℕ × Maybe P)) (me : Me (Maybe P) (SeatView P)) : Type 0 where
    pub noted : me.0.stake.notes ≡ record { place = place; part = part } ∷ older
    pub once : is_some (find (λ (n : Note P). n.place == place) older) ≡ false
    pub slot : me.1 ≡ (place, None) ∷ slots

  module _ (m : Meaning P) where
    -- the turn was taken with this part, which the seat has in its hand since, over what it had there before
    pub record Takes (f : Frame) (place : ℕ) (part : P) (me now : Me (Maybe P) (SeatView P)) : Type 0 where
      pub turn : TakesPart m f place me (now.0, (place, Some part) ∷ me.1)
      pub holds : Holds place part me.0.stake.notes me.1 now

    -- a swap of the turn of a place, of a table of so many slots: it was free, and the hold has the part of that place; or it was taken
    abbrev pub Tries : Frame → ℕ → ℕ → Me (Maybe P) (SeatView P) → Maybe (Hold P) → Me (Maybe P) (SeatView P) → Type 0
    Tries f slots place me (Some hold) now = (hold.key.place ≡ place) × Takes f place hold.part me now
    Tries f slots place me None now = TakesTurn m f place (step slots (4 + place) 1 0 none) me 1 now

    -- the part that the seat took last was of that place, and may be given back as this one
    pub record MayGive (f : Frame) (place : ℕ) (part : P) (me : Me (Maybe P) (SeatView P)) : Type 0 where
      pub old : P
      pub older : List (Note P)
      pub slots : List (ℕ × Maybe P)
      pub holds : Holds place old older slots me
      pub can : CanGive m f me.0 place old part

    -- whichever part the seat had taken, it knows the new one's front and those of its pins that are its own, and has in its hand what it had before
    abbrev pub Gives : ℕ → P → Me (Maybe P) (SeatView P) → Me (Maybe P) (SeatView P) → Type 0
    Gives place part me now = (old : P) (older : List (Note P)) (slots : List (ℕ × Maybe P)) → Holds place old older slots me
        → now ≡ (giving (record { place = place; part = old }) older (m.state_of old) (m.state_of part) me.0, slots)
