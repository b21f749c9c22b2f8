-- A part of which no more is known than its state is given back further on, and with other pins.
use Rattle.std.proofs.Common.{◌≡◌, ℕ, zero, suc, ◌<◌, ◌≤◌, List, [], ◌∷◌, ◌++◌, sym, refl, ap, ◌∙◌, arith, subst}
use Rattle.std.specs.Prelude.{All, Contains, length, min, max, if◌then◌else◌}
use Rattle.std.proofs.lemmas.List.{length-take}
use Rattle.go_word.specs.declared.pin.Pin.{Pin}
use Rattle.go_word.specs.Pins.{has_name}
use Rattle.go_core.specs.declared.part.PartState.{PartState}
use Rattle.go_core.specs.Frame.{Frame}
use Rattle.go_core.specs.Parts.{IsShardPlace, KeepsPins, reach_of}
use Rattle.go_core.proofs.PinCalls.{pins_unchanged, pins_added}
use Rattle.go_rule.specs.declared.view.SeatView.{SeatView}
use Rattle.go_rule.specs.declared.view.Stand.{Stand}
use Rattle.go_rule.specs.Samples.{IsArchiver}
use Rattle.go_rule.specs.Turns.{taking, owns_at, IsTaken, CanGive}
use Rattle.go_rule.proofs.Samples.{plain_meaning}

-- a shard that was brought on, at most to where the seat may bring it over what it has seen, with its cut
pub onward_can : (f : Frame) (d : SeatView PartState) (place : ℕ) (old new : PartState) → IsTaken plain_meaning f d place old → IsShardPlace f place
    → new.cut ≡ old.cut → old.front ≤ new.front → new.front ≤ max old.front (reach_of d.core) → new.front ≤ max old.front (length d.told.seen)
    → KeepsPins d.core.archived (owns_at place d) old new → CanGive plain_meaning f (taking place old d) place old new
onward_can f d place old new taken shard cut from reach seen keeps =
    record {
      fits = taken.fits;
      stands = λ log begins reaches.
          (let long : length d.told.seen ≡ min (length d.told.seen) (length log) = ap length begins ∙ length-take (length d.told.seen) log in omega arith);
      shard = λ _.
          (let own = (taken.shard shard).own in
          let low = own.0 in
          record {
            successor = record {
              onward = record { front_from = from; front_to = reach; cut_from = omega arith; cut_to = omega arith };
              keeps = keeps;
            };
            own = (omega arith, omega arith);
            kept = λ at above both. (let up = both.1 in (above, omega arith));
          });
      file = λ file. absurd (omega arith);
    }

-- by the party that took one entry, and has seen it
pub first_can : (f : Frame) (d : SeatView PartState) (place : ℕ) (old new : PartState) → IsTaken plain_meaning f d place old → IsShardPlace f place
    → IsArchiver 1 d → new.cut ≡ old.cut → new.pins ≡ old.pins → new.front ≡ 1 → CanGive plain_meaning f (taking place old d) place old new
first_can f d place old new taken shard one cut same front =
    let is = taken.shard shard in
    let took = one.taken_is in
    let seen = one.seen in
    let up = is.reached one.archives in
    let reach : reach_of d.core ≡ 1 = ap (λ b. if b then d.core.taken else 0) one.archives ∙ took in
    onward_can f d place old new taken shard cut (omega arith) (omega arith) (omega arith)
    (pins_unchanged d.core.archived (owns_at place d) old new same
    (subst (λ c. All (λ (pin : Pin). c ≤ pin.front) old.pins) (sym cut) is.in_hand.cut_pins) is.in_hand.names)

module _ (f : Frame) (d : SeatView PartState) (place : ℕ) (old new : PartState) (taken : IsTaken plain_meaning f d place old) (shard : IsShardPlace f place)
    (front : new.front ≡ old.front) (cut : new.cut ≡ old.cut) where
  pinned_can : KeepsPins d.core.archived (owns_at place d) old new → CanGive plain_meaning f (taking place old d) place old new
  pinned_can keeps = onward_can f d place old new taken shard cut (omega arith) (omega arith) (omega arith) keeps

  -- with the pins that it had
  pub same_can : new.pins ≡ old.pins → CanGive plain_meaning f (taking place old d) place old new
  same_can same =
      let hand = (taken.shard shard).in_hand in
      pinned_can (pins_unchanged d.core.archived (owns_at place d) old new same
      (subst (λ c. All (λ (pin : Pin). c ≤ pin.front) old.pins) (sym cut) hand.cut_pins) hand.names)

  -- with one, where it had none
  pub one_can : (p : Pin) → old.pins ≡ [] → new.pins ≡ p ∷ [] → p.front ≡ old.cut → CanGive plain_meaning f (taking place old d) place old new
  one_can p none one at =
      let hand = (taken.shard shard).in_hand in
      pinned_can (pins_added d.core.archived (owns_at place d) old new p (one ∙ ap (λ ps. ps ++ p ∷ []) (sym none)) (ap (has_name p.id) none) at
      (omega arith) hand.cut_pins hand.names)

-- three parts that are known to have stood at 1
pub three_stood : (stood before : List Stand)
    → stood ≡ record { place = 2; front = 1 } ∷ record { place = 1; front = 1 } ∷ record { place = 0; front = 1 } ∷ before
    → (place : ℕ) → place < 3 → Contains stood (record { place = place; front = 1 })
three_stood stood before is place less = subst (λ xs. Contains xs (record { place = place; front = 1 })) (sym is) (at place less)
  where
    at : (place : ℕ) → place < 3
        → Contains (record { place = 2; front = 1 } ∷ record { place = 1; front = 1 } ∷ record { place = 0; front = 1 } ∷ before)
        (record { place = place; front = 1 })
    at zero less = (2, omega arith, refl)
    at (suc zero) less = (1, omega arith, refl)
    at (suc (suc zero)) less = (0, omega arith, refl)
    at (suc (suc (suc k))) less = absurd (omega arith)
