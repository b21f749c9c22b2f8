-- A worker brings a part on of which no more is known than its state, and moves its front there.
use Rattle.std.proofs.Common.{◌≡◌, ℕ, ◌≤◌, true, ◌∷◌, length, sym, refl, ap, ◌∙◌, ⊎_elim, arith, subst}
use Rattle.std.specs.Prelude.{All, Contains, Some, min, max, if◌then◌else◌, Option as Maybe}
use Rattle.std.proofs.lemmas.List.{length-take}
use Rattle.atomic_table.specs.Table.{Me, rest}
use Rattle.go_word.specs.declared.pin.Pin.{Pin}
use Rattle.go_core.specs.declared.part.PartState.{PartState}
use Rattle.go_core.specs.Frame.{Frame}
use Rattle.go_core.specs.Parts.{IsShardPlace, IsFilePlace, reach_of}
use Rattle.go_core.proofs.PinCalls.{pins_unchanged}
use Rattle.go_rule.specs.declared.view.SeatView.{SeatView}
use Rattle.go_rule.specs.declared.view.Stand.{Stand}
use Rattle.go_rule.specs.Turns.{taking, owns_at, IsTaken, TakesPart, CanGive, GivesPart}
use Rattle.go_rule.proofs.Samples.{plain_meaning}
use Rattle.go_rule.proofs.TurnCalls.{given_is}
use Rattle.go_rule.proofs.TurnSamples.{onward_can}
use Rattle.go_ring.specs.Samples.{IsWorker, HasBrought}

module _ (f : Frame) (one : f.base ≡ 6) (d : SeatView PartState) (place front : ℕ) (works : IsWorker place front d) (old new : PartState)
    (taken : IsTaken plain_meaning f d place old) (cut : new.cut ≡ old.cut) (pins : new.pins ≡ old.pins) (far : new.front ≡ max old.front front) where
  -- the shard, by who moves the archived front
  shard_can : IsShardPlace f place → d.core.archives ≡ true → CanGive plain_meaning f (taking place old d) place old new
  shard_can shard archives =
      let is = taken.shard shard in
      let took = works.taken in
      let seen = works.seen in
      let reach : reach_of d.core ≡ front = ap (λ b. if b then d.core.taken else 0) archives ∙ took in
      onward_can f d place old new taken shard cut (omega arith) (omega arith) (omega arith)
      (pins_unchanged d.core.archived (owns_at place d) old new pins
      (subst (λ c. All (λ (pin : Pin). c ≤ pin.front) old.pins) (sym cut) is.in_hand.cut_pins) is.in_hand.names)

  -- the file
  file_can : IsFilePlace f place → CanGive plain_meaning f (taking place old d) place old new
  file_can file =
      let took = works.taken in
      let seen = works.seen in
      record {
        fits = taken.fits;
        stands = λ log begins reaches.
            (let long : length d.told.seen ≡ min (length d.told.seen) (length log) = ap length begins ∙ length-take (length d.told.seen) log in omega arith);
        shard = λ shard. absurd (omega arith);
        file = λ _.
            record {
              successor = record { front_from = omega arith; front_to = omega arith; cut = cut; pins = pins };
              clock = omega arith;
              faults = omega arith;
              spent = λ gone. absurd gone;
              recovers = λ log begins recovers. recovers;
            };
      }

  -- whichever of the two it is
  pub worker_can : CanGive plain_meaning f (taking place old d) place old new
  worker_can =
      ⊎_elim (λ shard. let at = shard.0 in shard_can (omega arith) shard.1) (λ file. let at = file.0 in file_can (omega arith)) works.role

-- where the part was given back so, the worker knows it to have stood there
pub brought : (f : Frame) (one : f.base ≡ 6) (place front : ℕ) (me now held last : Me (Maybe PartState) (SeatView PartState))
    (t : TakesPart plain_meaning f place me now) (new : PartState) → IsWorker place front me.0 → held.0 ≡ now.0 → held.1 ≡ (place, Some new) ∷ rest held.1
    → new.front ≡ max t.part.front front → GivesPart plain_meaning place held last → HasBrought place front last.0
brought f one place front me now held last t new works same slot far gives =
    let is = same ∙ ap (λ z. z.0) t.becomes in
    let given = given_is plain_meaning place held last gives t.part new me.0.stake.notes
    (record { noted = ap (λ z. z.stake.notes) is; once = t.free; slot = slot })
    in
    let stand : Stand = record { place = place; front = new.front } in
    let stood : last.0.stake.stood ≡ stand ∷ held.0.stake.stood = ap (λ z. z.0.stake.stood) given in
    record {
      stand = stand;
      there = subst (λ xs. Contains xs stand) (sym stood) (0, omega arith, refl);
      place_is = refl;
      far = omega arith;
      just = λ zero'.
          ⊎_elim (λ shard. let took = works.taken in let reached = (t.taken.shard (omega arith)).reached shard.1 in omega arith)
          (λ file. let at = file.0 in absurd (omega arith)) works.role;
    }
