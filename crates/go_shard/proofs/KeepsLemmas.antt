-- Lemmas on the fronts that a shard keeps, as it grows and as it is compacted.
use Rattle.std.proofs.Common.{◌≡◌, ◌⊎◌, ℕ, zero, suc, ◌≤◌, Bool, true, false, List, [], ◌∷◌, ◌++◌, filter, refl, ap, ◌∙◌, arith}
use Rattle.std.proofs.Common.{inl, inr}
use Rattle.std.specs.Prelude.{Contains, nat_le}
use Rattle.std.proofs.lemmas.Bool.{le-leb}
use Rattle.std.proofs.lemmas.List.Elements.{All-contains, All-filter, All-contains_itself, Contains-push, Contains-push_cases}
use Rattle.std.proofs.lemmas.List.Elements.{Contains-append_left}
use Rattle.go_shard.specs.declared.fronts.FrontRange.{FrontRange}
use Rattle.go_shard.specs.Fronts.{IsInOne}
use Rattle.go_shard.specs.Lane.{Lane}
use Rattle.go_shard.specs.ShardState.{ShardState, Keeps, IsSound}

-- what passes a test is still there where the test lets all through that passes it
pub contains_filtered : {X : Type 0} (p : X → Bool) (xs : List X) (x : X) → Contains xs x → p x ≡ true → Contains (filter p xs) x
contains_filtered p [] x there passes = absurd (omega (arith, there.1))
contains_filtered p (y ∷ xs) x (zero, within, is) passes = rw (ap p is ∙ passes) (zero, omega arith, is)
contains_filtered p (y ∷ xs) x (suc k, within, is) passes = behind (p y) refl (contains_filtered p xs x (k, omega (arith, within), is) passes) where
  behind : (b : Bool) → p y ≡ b → Contains (filter p xs) x → Contains (filter p (y ∷ xs)) x
  behind true is there = rw is (suc there.0, omega (arith, there.1), there.2)
  behind false is there = rw is there

-- and what is left was there
pub contains_before : {X : Type 0} (p : X → Bool) (xs : List X) (x : X) → Contains (filter p xs) x → Contains xs x
contains_before p xs x there = All-contains (Contains xs) (filter p xs) x (All-filter p (Contains xs) xs (All-contains_itself xs)) there

-- a shard keeps no front past its own
pub keeps_within : (shard : ShardState) (f : ℕ) → IsSound shard → Keeps shard f → f ≤ shard.front
keeps_within shard f sound (inl one) =
    omega (arith, one.within.to, All-contains (λ range. range.last ≤ shard.front) shard.fronts.earlier one.range sound.bounds.earlier one.there)
keeps_within shard f sound (inr late) = late.1

-- a shard keeps its own front
pub keeps_front : (shard : ShardState) → IsSound shard → Keeps shard shard.front
keeps_front shard sound = inr (sound.bounds.since, omega arith)

-- a front in some ranges is in more
in_more : (f : ℕ) (ranges : List FrontRange) (range : FrontRange) → IsInOne f ranges → IsInOne f (ranges ++ range ∷ [])
in_more f ranges range one = record { range = one.range; there = Contains-append_left ranges (range ∷ []) one.range one.there; within = one.within }

-- a shard after a batch: what it kept is in ranges, and the new front is kept
abbrev pub after_batch : ShardState → ℕ → List Lane → ShardState
after_batch shard front lanes = record shard {
  front = front;
  fronts = record { earlier = shard.fronts.earlier ++ record { first = shard.fronts.since; last = shard.front } ∷ []; since = front };
  lanes = lanes;
}

pub keeps_after : (shard : ShardState) (front : ℕ) (lanes : List Lane) (f : ℕ) → Keeps shard f → Keeps (after_batch shard front lanes) f
keeps_after shard front lanes f (inl one) = inl (in_more f shard.fronts.earlier (record { first = shard.fronts.since; last = shard.front }) one)
keeps_after shard front lanes f (inr late) =
    let range : FrontRange = record { first = shard.fronts.since; last = shard.front } in
    inl (record { range = range; there = Contains-push shard.fronts.earlier range; within = record { from = late.0; to = late.1 } })

pub kept_before : (shard : ShardState) (front : ℕ) (lanes : List Lane) (f : ℕ) → Keeps (after_batch shard front lanes) f → Keeps shard f ⊎ (f ≡ front)
kept_before shard front lanes f (inr late) = inr (omega (arith, late.0, late.1))
kept_before shard front lanes f (inl one) =
    let range : FrontRange = record { first = shard.fronts.since; last = shard.front } in
    elim (Contains-push_cases shard.fronts.earlier range one.range one.there) [
      | inl old ↦ inl (inl (record { range = one.range; there = old; within = one.within }))
      | inr now ↦
          let from : shard.fronts.since ≤ f = omega (arith, ap (λ (r : FrontRange). r.first) now, one.within.from) in
          let to : f ≤ shard.front = omega (arith, ap (λ (r : FrontRange). r.last) now, one.within.to) in
          inl (inr (from, to))
    ]

-- a shard that came to a front without an entry
pub keeps_on : (shard : ShardState) (front f : ℕ) → shard.front ≤ front → Keeps shard f → Keeps (record shard { front = front }) f
keeps_on shard front f later (inl one) = inl one
keeps_on shard front f later (inr late) = inr (late.0, omega (arith, late.1, later))

pub kept_so_far : (shard : ShardState) (front f : ℕ) → Keeps (record shard { front = front }) f → f ≤ shard.front → Keeps shard f
kept_so_far shard front f (inl one) early = inl one
kept_so_far shard front f (inr late) early = inr (late.0, early)

-- a shard after a compaction: ranges that end below its cut are given up
abbrev pub after_cut : ShardState → ℕ → List Lane → ShardState
after_cut shard cut lanes = record shard {
  cut = cut;
  fronts = record { earlier = filter (λ range. nat_le cut range.last) shard.fronts.earlier; since = shard.fronts.since };
  lanes = lanes;
}

pub keeps_cut_on : (shard : ShardState) (cut : ℕ) (lanes : List Lane) (f : ℕ) → cut ≤ f → Keeps shard f → Keeps (after_cut shard cut lanes) f
keeps_cut_on shard cut lanes f from (inr late) = inr late
keeps_cut_on shard cut lanes f from (inl one) = inl (record {
  range = one.range;
  there = contains_filtered (λ range. nat_le cut range.last) shard.fronts.earlier one.range one.there
      (le-leb cut one.range.last (omega (arith, from, one.within.to)));
  within = one.within;
})

pub kept_before_cut : (shard : ShardState) (cut : ℕ) (lanes : List Lane) (f : ℕ) → Keeps (after_cut shard cut lanes) f → Keeps shard f
kept_before_cut shard cut lanes f (inr late) = inr late
kept_before_cut shard cut lanes f (inl one) =
    inl (record { range = one.range; there = contains_before (λ range. nat_le cut range.last) shard.fronts.earlier one.range one.there; within = one.within })
