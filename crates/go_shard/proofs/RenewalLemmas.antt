-- Lemmas on the renewals of a compaction: what each makes of its lane, and of all of them so far.
use Rattle.std.proofs.Common.{◌≡◌, ◌≢◌, ◌⊎◌, ℕ, ◌+◌, ◌<◌, ◌≤◌, List, [], ◌∷◌, ◌++◌, length, set, get_or}
use Rattle.std.proofs.Common.{All, refl, sym, ap, ◌∙◌, subst, arith, inl, inr, length-append}
use Rattle.std.specs.Prelude.{Option, None, Some}
use Rattle.std.proofs.lemmas.Bool.{cases_lt, cases_eq}
use Rattle.std.proofs.lemmas.List.{get_or_append_left, get_or_push, get_or-set_other}
use Rattle.std.proofs.lemmas.Grind.{get_or-set_at}
use Rattle.std.proofs.Math.ListN.{length-set}
use Rattle.go_shard.specs.declared.renewal.Renewal.{Renewal}
use Rattle.go_shard.specs.Lane.{Lane, empty_lane, known, lane_at, IsCompacted}
use Rattle.go_shard.specs.Compacting.{HasRoomFor, renewed, IsRenewalOf, Becomes, AreRenewals, HaveRenewed}

-- a lane is compacted, however much room its list has
compacted_spare : (front : ℕ) (old lane : Lane) (room : ℕ) → IsCompacted front old lane → IsCompacted front old (record lane { spare = room })
compacted_spare front old lane room is = record {
  base = is.base;
  floor = is.floor;
  words = is.words;
  told = is.told;
  given_up = is.given_up;
  versions = is.versions;
  retired = is.retired;
  settled = is.settled;
}

-- what a lane is that may take its renewal: the old one, or compacted already, since a place may be listed twice
abbrev pub MayBe : ℕ → Lane → Lane → Type 0
MayBe front old now = (now ≡ old) ⊎ IsCompacted front old now

-- one that is compacted has the renewal's count
same_floor : (front : ℕ) (old now : Lane) (renewal : Renewal) → IsRenewalOf front old renewal → IsCompacted front old now → now.floor ≡ renewal.base.value.floor
same_floor front old now renewal is done = done.floor ∙ sym is.compacted.floor

-- it has the entries of its renewal
pub may_there : (front : ℕ) (old now : Lane) (renewal : Renewal) → IsRenewalOf front old renewal → MayBe front old now → renewal.base.value.floor ≤ known now
may_there front old now renewal is (inl same) = subst (λ (l : Lane). renewal.base.value.floor ≤ known l) (sym same) is.there
may_there front old now renewal is (inr done) = omega (arith, same_floor front old now renewal is done)

-- it has room, unless it is compacted already
pub may_room : (front : ℕ) (old now : Lane) (renewal : Renewal) → IsRenewalOf front old renewal → MayBe front old now → now.floor < renewal.base.value.floor
    → HasRoomFor renewal now
may_room front old now renewal is (inl same) less = subst (HasRoomFor renewal) (sym same) is.room
may_room front old now renewal is (inr done) less = absurd (omega (arith, same_floor front old now renewal is done, less))

-- and is compacted afterwards
pub may_take : (front : ℕ) (old now new : Lane) (renewal : Renewal) → IsRenewalOf front old renewal → MayBe front old now →
    (renewal.base.value.floor ≤ now.floor → new ≡ now) → (now.floor < renewal.base.value.floor → new ≡ record (renewed renewal now) { spare = new.spare }) →
    IsCompacted front old new
may_take front old now new renewal is (inl same) already takes =
    let more : now.floor < renewal.base.value.floor = omega (arith, ap (λ (l : Lane). l.floor) same, is.more) in
    let taken : new ≡ record (renewed renewal old) { spare = new.spare } = takes more
    ∙ ap (λ (l : Lane). record (renewed renewal l) { spare = new.spare }) same in
    subst (IsCompacted front old) (sym taken) (compacted_spare front old (renewed renewal old) new.spare is.compacted)
may_take front old now new renewal is (inr done) already takes =
    subst (IsCompacted front old) (sym (already (omega (arith, same_floor front old now renewal is done)))) done

-- how far the listed lanes are renewed, from the last one on
pub record IsRenewedFrom (front : ℕ) (old now : List Lane) (listed : List ℕ) (left : ℕ) : Type 0 where
  pub each : (place : ℕ) → MayBe front (lane_at old place) (lane_at now place)
  pub done : (k : ℕ) → left ≤ k → k < length listed → IsCompacted front (lane_at old (get_or listed k 0)) (lane_at now (get_or listed k 0))

-- one more is renewed
pub renewed_next : (front : ℕ) (old now : List Lane) (listed : List ℕ) (left : ℕ) (lane : Lane) → length now ≡ length old → get_or listed left 0 < length old →
    IsCompacted front (lane_at old (get_or listed left 0)) lane → IsRenewedFrom front old now listed (left + 1) →
    IsRenewedFrom front old (set now (get_or listed left 0) lane) listed left
renewed_next front old now listed left lane equal inside is so_far = record {
  each = λ place. each place;
  done = λ k from within. done k from within;
} where
  here : (place : ℕ) → place ≡ (get_or listed left 0) → IsCompacted front (lane_at old place) (lane_at (set now (get_or listed left 0) lane) place)
  here place same =
      let is_lane : lane_at (set now (get_or listed left 0) lane) place ≡ lane =
      get_or-set_at now (get_or listed left 0) place lane empty_lane same (omega (arith, inside, equal)) in
      subst (IsCompacted front (lane_at old place)) (sym is_lane) (subst (λ (n : ℕ). IsCompacted front (lane_at old n) lane) (sym same) is)

  each : (place : ℕ) → (lane_at (set now (get_or listed left 0) lane) place ≡ lane_at old place)
      ⊎ IsCompacted front (lane_at old place) (lane_at (set now (get_or listed left 0) lane) place)
  each place = elim (cases_eq place (get_or listed left 0)) as (λ _. (lane_at (set now (get_or listed left 0) lane) place ≡ lane_at old place)
      ⊎ IsCompacted front (lane_at old place) (lane_at (set now (get_or listed left 0) lane) place)) [
        | inl same ↦ inr (here place same)
        | inr other ↦ subst (λ (lane : Lane). (lane ≡ lane_at old place) ⊎ IsCompacted front (lane_at old place) lane)
            (sym (get_or-set_other now (get_or listed left 0) place lane empty_lane other)) (so_far.each place)
      ]

  done : (k : ℕ) → left ≤ k → k < length listed →
      IsCompacted front (lane_at old (get_or listed k 0)) (lane_at (set now (get_or listed left 0) lane) (get_or listed k 0))
  done k from within = elim (cases_eq (get_or listed k 0) (get_or listed left 0)) as
      (λ _. IsCompacted front (lane_at old (get_or listed k 0)) (lane_at (set now (get_or listed left 0) lane) (get_or listed k 0))) [
        | inl same ↦ here (get_or listed k 0) same
        | inr other ↦
            let later : left + 1 ≤ k = past k from other in
            subst (IsCompacted front (lane_at old (get_or listed k 0))) (sym
            (get_or-set_other now (get_or listed left 0) (get_or listed k 0) lane empty_lane other)) (so_far.done k later within)
      ] where
        past : (k : ℕ) → left ≤ k → get_or listed k 0 ≢ get_or listed left 0 → left + 1 ≤ k
        past k from other = elim (cases_lt left k) [
          | inl more ↦ omega (arith, more)
          | inr no_more ↦ absurd (other (ap (λ (n : ℕ). get_or listed n 0) (let same : k ≡ left = omega (arith, from, no_more) in same)))
        ]

-- one more needs no renewal
pub renewed_same : (front : ℕ) (old now : List Lane) (listed : List ℕ) (left : ℕ) →
    IsCompacted front (lane_at old (get_or listed left 0)) (lane_at old (get_or listed left 0)) → IsRenewedFrom front old now listed (left + 1) →
    IsRenewedFrom front old now listed left
renewed_same front old now listed left stays so_far = record { each = so_far.each; done = λ k from within. done k from within } where
  either : MayBe front (lane_at old (get_or listed left 0)) (lane_at now (get_or listed left 0)) →
      IsCompacted front (lane_at old (get_or listed left 0)) (lane_at now (get_or listed left 0))
  either (inl same) = subst (IsCompacted front (lane_at old (get_or listed left 0))) (sym same) stays
  either (inr is) = is

  done : (k : ℕ) → left ≤ k → k < length listed → IsCompacted front (lane_at old (get_or listed k 0)) (lane_at now (get_or listed k 0))
  done k from within = elim (cases_lt left k) as (λ _. IsCompacted front (lane_at old (get_or listed k 0)) (lane_at now (get_or listed k 0))) [
    | inl more ↦ so_far.done k (omega (arith, more)) within
    | inr no_more ↦
        let same : left ≡ k = omega (arith, from, no_more) in
        subst (λ (n : ℕ). IsCompacted front (lane_at old (get_or listed n 0)) (lane_at now (get_or listed n 0))) same
        (either (so_far.each (get_or listed left 0)))
  ]

-- what is known while lanes are renewed, from the last one on
pub record IsRenewing (front : ℕ) (old : List Lane) (listed : List ℕ) (now : List Lane) (left : List (Option Renewal)) : Type 0 where
  pub fewer : length left ≤ length listed
  pub becomes : (k : ℕ) → k < length left → Becomes front (lane_at old (get_or listed k 0)) (get_or left k None)
  pub all : length now ≡ length old
  pub so_far : IsRenewedFrom front old now listed (length left)

pub renewing_none : (front : ℕ) (old : List Lane) (listed : List ℕ) (renewals : List (Option Renewal)) → AreRenewals front old listed renewals →
    IsRenewing front old listed old renewals
renewing_none front old listed renewals are = record {
  fewer = omega (arith, are.count);
  becomes = λ k within. are.each k (omega (arith, within, are.count));
  all = refl;
  so_far = record { each = λ place. inl refl; done = λ k from within. absurd (omega (arith, from, within, are.count)) };
}

-- the last that is left, as it is popped
pub record IsPopped (front : ℕ) (old now : List Lane) (listed : List ℕ) (new : List (Option Renewal)) (one : Option Renewal) : Type 0 where
  pub here : length new < length listed
  pub becomes : Becomes front (lane_at old (get_or listed (length new) 0)) one
  pub before : IsRenewedFrom front old now listed (length new + 1)
  pub others : (k : ℕ) → k < length new → Becomes front (lane_at old (get_or listed k 0)) (get_or new k None)
  pub all : length now ≡ length old

pub popped : (front : ℕ) (old : List Lane) (listed : List ℕ) (now : List Lane) (left new : List (Option Renewal)) (one : Option Renewal) →
    left ≡ new ++ one ∷ [] → IsRenewing front old listed now left → IsPopped front old now listed new one
popped front old listed now left new one parts is =
    let long : length left ≡ length new + 1 = ap length parts ∙ length-append new (one ∷ []) in
    let last : get_or left (length new) None ≡ one = ap (λ (l : List (Option Renewal)). get_or l (length new) None) parts
    ∙ get_or_push new one None (length new) refl in
    record {
      here = omega (arith, long, is.fewer);
      becomes = subst (Becomes front (lane_at old (get_or listed (length new) 0))) last (is.becomes (length new) (omega (arith, long)));
      before = subst (IsRenewedFrom front old now listed) long is.so_far;
      others = λ k within.
          let same : get_or left k None ≡ get_or new k None = ap (λ (l : List (Option Renewal)). get_or l k None) parts
          ∙ get_or_append_left new (one ∷ []) None k within in
          subst (Becomes front (lane_at old (get_or listed k 0))) same (is.becomes k (omega (arith, long, within)));
      all = is.all;
    }

-- one that needs none was popped
pub renewing_same : (front : ℕ) (old : List Lane) (listed : List ℕ) (now : List Lane) (new : List (Option Renewal)) →
    IsPopped front old now listed new None → IsRenewing front old listed now new
renewing_same front old listed now new is = record {
  fewer = omega (arith, is.here);
  becomes = is.others;
  all = is.all;
  so_far = renewed_same front old now listed (length new) is.becomes is.before;
}

-- one was popped, and its lane has taken it
pub renewing_next : (front : ℕ) (old : List Lane) (listed : List ℕ) (now : List Lane) (new : List (Option Renewal)) (renewal : Renewal) (lane : Lane) →
    All (λ place. place < length old) listed → IsPopped front old now listed new (Some renewal) →
    (renewal.base.value.floor ≤ (lane_at now (get_or listed (length new) 0)).floor → lane ≡ lane_at now (get_or listed (length new) 0)) →
    ((lane_at now (get_or listed (length new) 0)).floor < renewal.base.value.floor →
    lane ≡ record (renewed renewal (lane_at now (get_or listed (length new) 0))) { spare = lane.spare }) →
    IsRenewing front old listed (set now (get_or listed (length new) 0) lane) new
renewing_next front old listed now new renewal lane inside is already takes =
    let place : ℕ = get_or listed (length new) 0 in
    let compacted : IsCompacted front (lane_at old place) lane =
    may_take front (lane_at old place) (lane_at now place) lane renewal is.becomes (is.before.each place) already takes in
    record {
      fewer = omega (arith, is.here);
      becomes = is.others;
      all = length-set now place lane ∙ is.all;
      so_far = renewed_next front old now listed (length new) lane is.all (inside (length new) 0 is.here) compacted is.before;
    }

-- none is left
pub renewing_done : (front : ℕ) (old : List Lane) (listed : List ℕ) (now : List Lane) (left : List (Option Renewal)) → length left ≡ 0 →
    IsRenewing front old listed now left → HaveRenewed front old now listed
renewing_done front old listed now left none is = record {
  each = is.so_far.each;
  done = λ k within. is.so_far.done k (omega (arith, none)) within;
}
