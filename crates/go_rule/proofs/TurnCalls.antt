-- For callers: what a turn that was taken gives, and what has to be known of its part as it is given back.
use Rattle.std.proofs.Common.{◌≡◌, ◌⊎◌, ℕ, List, [], ◌∷◌, drop, sym, ap, ◌∙◌, ⊎_elim, arith, subst}
use Rattle.std.specs.Prelude.{Some, None, Option as Maybe}
use Rattle.std.proofs.lemmas.Option.{same_Some}
use Rattle.atomic_table.specs.Table.{Me, rest}
use Rattle.go_core.specs.Frame.{Frame}
use Rattle.go_rule.specs.declared.view.Note.{Note}
use Rattle.go_rule.specs.declared.view.SeatView.{SeatView}
use Rattle.go_rule.specs.Meaning.{Meaning}
use Rattle.go_rule.specs.Steps.{Becomes}
use Rattle.go_rule.specs.Views.{with_unmoved}
use Rattle.go_rule.specs.Turns.{taking, giving, IsTaken, TakesPart, CanGive, IsInSlot, HasPart, GivesPart}

-- what stands first in a list, stands before its rest
pub headed : {A : Type 0} (xs ys : List (ℕ × A)) (x : ℕ × A) → xs ≡ x ∷ ys → xs ≡ x ∷ rest xs
headed xs ys x is = is ∙ ap (λ zs. x ∷ zs) (sym (ap rest is))

-- what a slot holds is one value
pub value_is : {A : Type 0} (a b : A) (xs ys zs : List (ℕ × A)) {k j : ℕ} → xs ≡ (k, a) ∷ ys → xs ≡ (j, b) ∷ zs → a ≡ b
value_is a b xs ys zs one two = ap (first a) (sym one ∙ two)
  where
    first : {A : Type 0} → A → List (ℕ × A) → A
    first z [] = z
    first z (x ∷ xs) = x.1

-- what lies in a slot after two values were put in there
pub put_in : {A V : Type 0} (now mid then : Me A V) {k : ℕ} {a b : A} → mid ≡ (now.0, (k, a) ∷ rest now.1) → then ≡ (mid.0, (k, b) ∷ rest mid.1)
    → then ≡ (now.0, (k, b) ∷ rest now.1)
put_in now mid then {k} {a} {b} one two = two ∙ ap (λ z. (z.0, (k, b) ∷ rest z.1)) one

module _ {P : Type 0} (m : Meaning P) where
  -- where the turn word was 0, the part is the seat's
  pub part_taken : (f : Frame) (place : ℕ) (me : Me (Maybe P) (SeatView P)) (n : ℕ) (now : Me (Maybe P) (SeatView P))
      → ((n ≡ 0) × TakesPart m f place me now) ⊎ ((n ≡ 1) × Becomes (with_unmoved me.0) me now) → n ≡ 0 → TakesPart m f place me now
  part_taken f place me n now takes none = ⊎_elim (λ free. free.1) (λ held. let one = held.0 in absurd (omega arith)) takes

  -- and lies in the slot that was taken last
  pub slot_taken : (f : Frame) (place : ℕ) (me now : Me (Maybe P) (SeatView P)) (t : TakesPart m f place me now) → now.1 ≡ (place, Some t.part) ∷ rest now.1
  slot_taken f place me now t = headed now.1 me.1 (place, Some t.part) (ap (λ z. z.1) t.becomes)

  -- so that slot holds something
  pub lies_in : (f : Frame) (place : ℕ) (me : Me (Maybe P) (SeatView P)) (n : ℕ) (now : Me (Maybe P) (SeatView P))
      → ((n ≡ 0) × TakesPart m f place me now) ⊎ ((n ≡ 1) × Becomes (with_unmoved me.0) me now) → n ≡ 0
      → (x : Maybe P) × (now.1 ≡ (place, x) ∷ rest now.1)
  lies_in f place me n now takes none = let t = part_taken f place me n now takes none in (Some t.part, slot_taken f place me now t)

  -- another part was put into that slot since, as which it may be given back
  pub has_part : (f : Frame) (place : ℕ) (me now then : Me (Maybe P) (SeatView P)) (t : TakesPart m f place me now) (new : P) → then.0 ≡ now.0
      → then.1 ≡ (place, Some new) ∷ rest then.1 → CanGive m f (taking place t.part me.0) place t.part new → HasPart m f place then
  has_part f place me now then t new same slot can =
      let is = same ∙ ap (λ z. z.0) t.becomes in
      record {
        old = t.part;
        new = new;
        older = me.0.stake.notes;
        is = record { noted = ap (λ z. z.stake.notes) is; once = t.free; slot = slot };
        can = subst (λ d. CanGive m f d place t.part new) (sym is) can;
      }

  -- so a part that was taken and came out of its slot may be given back as the one that was put in there since, if that may be told of any such part
  pub given_back : (f : Frame) (place : ℕ) (me now then : Me (Maybe P) (SeatView P)) (out : Maybe P) (found new : P) → TakesPart m f place me now
      → now.1 ≡ (place, out) ∷ rest now.1 → out ≡ Some found → then ≡ (now.0, (place, Some new) ∷ rest now.1)
      → ((old : P) → IsTaken m f me.0 place old → old ≡ found → CanGive m f (taking place old me.0) place old new) → HasPart m f place then
  given_back f place me now then out found new t lay is put can =
      let taken : Some t.part ≡ out = value_is (Some t.part) out now.1 _ _ (slot_taken f place me now t) lay in
      let part : t.part ≡ found = same_Some t.part found (taken ∙ is) in
      has_part f place me now then t new (ap (λ z. z.0) put) (headed then.1 _ (place, Some new) (ap (λ z. z.1) put)) (can t.part t.taken part)

  -- which part was given back is known by what was noted and what lay in the slot
  pub given_is : (place : ℕ) (then last : Me (Maybe P) (SeatView P)) → GivesPart m place then last → (old new : P) (older : List (Note P))
      → IsInSlot m place then old new older
      → last ≡ (giving (record { place = place; part = old }) older (m.state_of old) (m.state_of new) then.0, rest then.1)
  given_is place then last g old new older is =
      let noted = sym g.is.noted ∙ is.noted in
      let olds : g.old ≡ old = ap (part_first g.old) noted in
      let olders : g.older ≡ older = ap (drop 1) noted in
      let news : g.new ≡ new = ap (value_of g.new) (value_is (Some g.new) (Some new) then.1 _ _ g.is.slot is.slot) in
      g.becomes
      ∙ ap (λ p. (giving (record { place = place; part = p }) g.older (m.state_of p) (m.state_of g.new) then.0, rest then.1)) olds
      ∙ ap (λ ns. (giving (record { place = place; part = old }) ns (m.state_of old) (m.state_of g.new) then.0, rest then.1)) olders
      ∙ ap (λ p. (giving (record { place = place; part = old }) older (m.state_of old) (m.state_of p) then.0, rest then.1)) news
    where
      part_first : P → List (Note P) → P
      part_first z [] = z
      part_first z (n ∷ ns) = n.part

      value_of : P → Maybe P → P
      value_of z None = z
      value_of z (Some p) = p
