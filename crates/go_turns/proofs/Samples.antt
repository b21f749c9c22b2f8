-- On parts of which no more is known than their state: a ring over four of them may be opened, and one is brought on and given back.
use Rattle.std.proofs.Common.{◌≡◌, ℕ, zero, suc, ◌^◌, ◌<◌, ◌≤◌, [], ◌∷◌, length, sym, refl, ap, ◌∙◌, arith, subst}
use Rattle.std.specs.Prelude.{All, Some, min, slice_get}
use Rattle.std.proofs.lemmas.List.{length-take}
use Rattle.std.proofs.lemmas.Option.{same_Some, none-some}
use Rattle.std.proofs.lemmas.List.Elements.{All-nil}
use Rattle.go_core.specs.declared.part.PartState.{PartState}
use Rattle.go_core.specs.Frame.{Frame}
use Rattle.go_core.specs.Parts.{IsShardPlace}
use Rattle.go_core.proofs.PinCalls.{pins_unchanged}
use Rattle.go_rule.specs.declared.layout.Key.{Key}
use Rattle.go_rule.specs.declared.view.SeatView.{SeatView}
use Rattle.go_rule.specs.Rule.{IsBelow}
use Rattle.go_rule.specs.Views.{opened_of}
use Rattle.go_rule.specs.Opening.{CanOpen}
use Rattle.go_rule.specs.Turns.{taking, owns_at, IsTaken, CanGive}
use Rattle.go_rule.proofs.Samples.{empty_part}
use Rattle.go_turns.specs.Samples.{meaning_by, brought_to, MayBring}

module _ {P : Type 0} (state : P → PartState) where
  -- four parts that have taken in nothing
  pub record AreEmpty (a b c file : P) : Type 0 where
    pub first : state a ≡ empty_part
    pub second : state b ≡ empty_part
    pub third : state c ≡ empty_part
    pub file_is : state file ≡ empty_part

  -- whichever of them it is
  each_empty : (a b c file : P) → AreEmpty a b c file → (place : ℕ) (part : P) → slice_get (a ∷ b ∷ c ∷ file ∷ []) place ≡ Some part → state part ≡ empty_part
  each_empty a b c file empty zero part there = ap state (sym (same_Some a part there)) ∙ empty.first
  each_empty a b c file empty (suc zero) part there = ap state (sym (same_Some b part there)) ∙ empty.second
  each_empty a b c file empty (suc (suc zero)) part there = ap state (sym (same_Some c part there)) ∙ empty.third
  each_empty a b c file empty (suc (suc (suc zero))) part there = ap state (sym (same_Some file part there)) ∙ empty.file_is
  each_empty a b c file empty (suc (suc (suc (suc k)))) part there = absurd (none-some part there)

  -- there is none past the last
  places : (a b c file : P) (place : ℕ) (part : P) → slice_get (a ∷ b ∷ c ∷ file ∷ []) place ≡ Some part → place ≤ 3
  places a b c file zero part there = omega arith
  places a b c file (suc zero) part there = omega arith
  places a b c file (suc (suc zero)) part there = omega arith
  places a b c file (suc (suc (suc zero))) part there = omega arith
  places a b c file (suc (suc (suc (suc k)))) part there = absurd (none-some part there)

  -- the sizes of a ring of three shards, which nothing stood in before
  pub record IsNew (key : Key P) : Type 0 where
    pub shards : key.layout.shards ≡ 3
    pub first : key.first ≡ 0
    pub opened : opened_of key ≡ []
    pub few : key.quota < 2 ^ 31

  pub may_open : (key : Key P) (a b c file : P) → IsNew key → key.file.value ≡ file → AreEmpty a b c file
      → CanOpen (meaning_by state) key (Some a ∷ Some b ∷ Some c ∷ Some file ∷ [])
  may_open key a b c file new same empty =
      let shards = new.shards in
      let first = new.first in
      let few = new.few in
      record {
        room = record {
          long = ap length new.opened ∙ sym first;
          below = subst (All (IsBelow key.layout.vertices)) (sym new.opened) (All-nil (IsBelow key.layout.vertices));
          few = omega arith;
        };
        parts = a ∷ b ∷ c ∷ file ∷ [];
        all = refl;
        count = omega arith;
        first = λ place part there.
            (let is = each_empty a b c file empty place part there in
            let front = ap (λ s. s.front) is in
            let within = places a b c file place part there in
            record { fits = omega arith; front = omega arith; stands = omega arith });
        shards = λ place part there shard.
            (let is = each_empty a b c file empty place part there in
            let front = ap (λ s. s.front) is in
            let cut = ap (λ s. s.cut) is in
            record { cut = omega arith; pins = ap (λ s. s.pins) is; keeps = (omega arith, omega arith) });
        file = λ place part there at.
            record {
              same = sym (same_Some file part (ap (slice_get (a ∷ b ∷ c ∷ file ∷ [])) (let last : 3 ≡ place = omega arith in last) ∙ there)) ∙ sym same;
              whole = λ gone. gone;
              recovers = tt;
            };
      }

  -- a shard that a seat brought on as far as it may is given back
  pub brought_can : (f : Frame) (d : SeatView P) (place : ℕ) (old new : P) (to : ℕ) → IsTaken (meaning_by state) f d place old → IsShardPlace f place
      → MayBring to d → state new ≡ brought_to to (state old) → CanGive (meaning_by state) f (taking place old d) place old new
  brought_can f d place old new to taken shard may is =
      let front = ap (λ s. s.front) is in
      let cut = ap (λ s. s.cut) is in
      let reach = may.reach in
      let seen = may.seen in
      let hand = (taken.shard shard).in_hand in
      let own = (taken.shard shard).own in
      let low = own.0 in
      record {
        fits = taken.fits;
        stands = λ log begins reaches.
            (let long : length d.told.seen ≡ min (length d.told.seen) (length log) = ap length begins ∙ length-take (length d.told.seen) log in omega arith);
        shard = λ _.
            record {
              successor = record {
                onward = record { front_from = omega arith; front_to = omega arith; cut_from = omega arith; cut_to = omega arith };
                keeps = pins_unchanged d.core.archived (owns_at place d) (state old) (state new) (ap (λ s. s.pins) is)
                    (subst (λ c. All (λ pin. c ≤ pin.front) (state old).pins) (sym cut) hand.cut_pins) hand.names;
              };
              own = (omega arith, omega arith);
              kept = λ at above both. (let up = both.1 in (above, omega arith));
            };
        file = λ file. absurd (omega arith);
      }
