-- A shard was taken and given back with other pins: what its seat has then.
use Rattle.std.proofs.Common.{◌≡◌, ◌↔◌, ℕ, true, false, List, sym, refl, ap, ◌∙◌, ⊎_elim, subst}
use Rattle.std.specs.Prelude.{All, Contains, ◌⊎◌, ◌==◌, Option as Maybe, Result, Ok, Err, MatchResult}
use Rattle.std.proofs.lemmas.Bool.{cases_Bool}
use Rattle.atomic_table.specs.Table.{Me}
use Rattle.go_word.specs.declared.pin.Pin.{Pin}
use Rattle.go_word.specs.Pins.{is_named, has_name}
use Rattle.go_core.specs.Frame.{Frame}
use Rattle.go_core.specs.Parts.{AreNamed, IsShardPlace}
use Rattle.go_core.specs.View.{unmoved}
use Rattle.go_rule.specs.declared.view.SeatView.{SeatView}
use Rattle.go_rule.specs.Meaning.{Meaning}
use Rattle.go_rule.specs.Rule.{pins_at}
use Rattle.go_rule.specs.Turns.{own_pins}
use Rattle.go_rule.proofs.Lists.{is_number}
use Rattle.go_turns.specs.Going.{HasGoneOn}
use Rattle.go_turns.specs.Holding.{Takes, Gives}
use Rattle.go_turns.proofs.Going.{gone_nowhere, gave_other}
use Rattle.go_turns.proofs.GivenPins.{none_own, own_added, own_moved, own_removed}
use Rattle.go_turns.proofs.Handing.{told_of, view_is}
use Rattle.go_turns.proofs.OwnPins.{own_unchanged}
use Rattle.go_views.specs.Pins.{HasShifted, HasLost}
use Rattle.go_views.specs.PlaceTurns.{AreSame, HasNewName, IsAdded, HasServedAt, shifted, without}
use Rattle.go_views.proofs.PinsBecome.{same_by}

module _ {P : Type 0} (m : Meaning P) (f : Frame) (place : ℕ) (old new : P) (me now after : Me (Maybe P) (SeatView P)) (here : IsShardPlace f place)
    (takes : Takes m f place old me now) (gives : Gives m place new now after) where
  -- the pins that the seat had, those of the shard as it was, and of the shard as it is those that are the seat's
  abbrev mine : List Pin
  mine = pins_at place me.0

  abbrev held : List Pin
  held = (m.state_of old).pins

  -- what became of its pins there is said of those that are its own, by which of the shard's it had
  served_at : (Becomes : List Pin → List Pin → Type 0)
      → (AreNamed held → All (Contains held) mine → Becomes mine (own_pins place me.0 held (m.state_of new).pins)) → HasServedAt place Becomes me after
  served_at Becomes becomes =
      let given = gave_other m f place old new me now now after takes (gone_nowhere f now.0) refl gives in
      let shard = (told_of m f place old me now takes).shard here in
      let view = view_is m f place old me now takes in
      let gave = gives old me.0.stake.notes me.1 takes.holds in
      record {
        moved = record { knows = given.knows; rest = given.rest };
        here = subst (Becomes mine) (sym (given.here ∙ ap (λ d. own_pins place d held (m.state_of new).pins) view)) (becomes shard.in_hand.names shard.pins);
        elsewhere = λ other ne. given.elsewhere other ne ∙ ap (pins_at other) view;
        core = ap (λ z. unmoved z.0.core) gave ∙ ap (λ d. unmoved d.core) view;
        told = ap (λ z. z.0.told) gave ∙ ap (λ d. d.told) view;
        hand = given.hand;
      }

  -- the shard has the pins that it had
  pub same_at : (m.state_of new).pins ≡ held → HasServedAt place AreSame me after
  same_at same =
      served_at AreSame
      (λ names has x.
      subst (λ pins. Contains (own_pins place me.0 held pins) x ↔ Contains mine x) (sym same) (own_unchanged mine held names has x))

  -- it has one pin more
  pub gained_at : (name front : ℕ) → IsAdded name front held (m.state_of new).pins → HasServedAt place (HasNewName name) me after
  gained_at name front added =
      let pin : Pin = record { id = name; front = front } in
      served_at (HasNewName name)
      (λ names has. (
        front,
        record {
          fresh = none_own mine held names has name added.fresh;
          are = λ x.
              subst (λ pins. Contains (own_pins place me.0 held pins) x ↔ (Contains mine x ⊎ (x ≡ pin))) (sym added.is)
              (own_added mine held names has pin added.fresh x);
        },
      ))

  -- a pin was put in, or that was refused
  pub pinned_at : {E : Type 0} (result : Result ℕ E)
      → MatchResult result (λ name. (front : ℕ) × IsAdded name front held (m.state_of new).pins) (λ _. (m.state_of new).pins ≡ held)
      → MatchResult result (λ name. HasServedAt place (HasNewName name) me after) (λ _. HasServedAt place AreSame me after)
  pinned_at (Ok name) added = gained_at name added.0 added.1
  pinned_at (Err refused) same = same_at same

  -- the pin of a name that is the seat's stands elsewhere
  pub shifted_at : (name front : ℕ) → has_name name mine ≡ true → (m.state_of new).pins ≡ shifted name front held
      → HasServedAt place (HasShifted (record { id = name; front = front })) me after
  shifted_at name front named is =
      served_at (HasShifted (record { id = name; front = front }))
      (λ names has x.
      subst (λ pins. Contains (own_pins place me.0 held pins) x ↔ ((Contains mine x × (is_named name x ≡ false)) ⊎ (x ≡ record { id = name; front = front })))
      (sym is) (own_moved mine held names has name front named x))

  -- it is gone
  pub lost_at : (name : ℕ) → (m.state_of new).pins ≡ without name held → HasServedAt place (HasLost name) me after
  lost_at name is =
      served_at (HasLost name)
      (λ names has x.
      subst (λ pins. Contains (own_pins place me.0 held pins) x ↔ (Contains mine x × (is_named name x ≡ false))) (sym is)
      (own_removed mine held names has name x))

-- a turn in which no pin changed is one of those after which a seat has gone on
pub gone_at : {P S : Type 0} (f : Frame) (place : ℕ) (me now : Me S (SeatView P)) → HasServedAt place AreSame me now → HasGoneOn f me.0 now.0
gone_at f place me now served =
    record {
      knows = served.moved.knows;
      rest = served.moved.rest;
      pins = λ other shard pin.
          ⊎_elim
          (λ (is : (other == place) ≡ true).
          subst (λ k. Contains (pins_at k now.0) pin ↔ Contains (pins_at k me.0) pin) (sym (is_number other place is)) (served.here pin))
          (λ (ne : (other == place) ≡ false). same_by (pins_at other me.0) (pins_at other now.0) (served.elsewhere other ne) pin)
          (cases_Bool (other == place));
    }
