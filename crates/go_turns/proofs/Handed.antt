-- For callers: a part that was lifted out of a hold and goes back with its turn, by the paths of the calls.
use Rattle.std.proofs.Common.{◌≡◌, ℕ, sym, ap, ◌∙◌, subst}
use Rattle.std.specs.Prelude.{OnOk, Result, Ok, Err, Option as Maybe}
use Rattle.atomic_table.specs.Table.{Me}
use Rattle.go_core.specs.Frame.{Frame}
use Rattle.go_rule.specs.declared.view.SeatView.{SeatView}
use Rattle.go_rule.specs.Meaning.{Meaning}
use Rattle.go_rule.specs.Turns.{CanGive}
use Rattle.go_turns.specs.declared.hold.Hold.{Hold}
use Rattle.go_turns.specs.declared.key.TurnKey.{TurnKey}
use Rattle.go_turns.specs.Holding.{Takes, MayGive, Gives}
use Rattle.go_turns.proofs.Handing.{may_give}

module _ {P : Type 0} (m : Meaning P) (f : Frame) (place : ℕ) (hold back : Hold P) (key : TurnKey) (part new : P) (me now then after : Me (Maybe P) (SeatView P))
    (takes : (hold.key.place ≡ place) × Takes m f place hold.part me now) (part_is : part ≡ hold.part) (key_is : key ≡ hold.key)
    (back_key : back.key ≡ key) (back_part : back.part ≡ new) where
  -- it was taken so
  pub took : Takes m f place part me now
  took = subst (λ p. Takes m f place p me now) (sym part_is) takes.1

  place_is : back.key.place ≡ place
  place_is = ap (λ k. k.place) (back_key ∙ key_is) ∙ takes.0

  -- it may go back so, after steps that left the notes and the slots in hand
  pub may_go : then.0.stake.notes ≡ now.0.stake.notes → then.1 ≡ now.1 → CanGive m f then.0 place part new → MayGive m f back.key.place back.part then
  may_go notes hand can =
      subst (λ k. MayGive m f k back.part then) (sym place_is)
      (subst (λ p. MayGive m f place p then) (sym back_part) (may_give m f place part me now took new then notes hand can))

  -- and it went back so
  pub went : Gives m back.key.place back.part then after → Gives m place new then after
  went gives = subst (λ p. Gives m place p then after) back_part (subst (λ k. Gives m k back.part then after) place_is gives)

-- what follows where a call was made
pub on_ok : {A B : Type 0} {Q R : Type 0} (result : Result A B) → (Q → R) → OnOk result Q → OnOk result R
on_ok (Ok done) follows holds = follows holds
on_ok (Err why) follows holds = tt
