-- Lemmas on the greatest front in some ranges, on the least front of some pins, and on their names.
use Rattle.std.proofs.Common.{◌≡◌, ◌⊎◌, ℕ, zero, suc, ◌+◌, ◌<◌, ◌≤◌, Bool, true, false, List, [], ◌∷◌, ◌++◌, length, take, drop, set, get_or}
use Rattle.std.proofs.Common.{map, count_by, min, max, refl, sym, ap, subst, ◌∙◌, arith, inl, inr, if◌then◌else◌}
use Rattle.std.specs.Prelude.{All, nat_le}
use Rattle.std.proofs.lemmas.Bool.{cases_lt, true≢false}
use Rattle.std.proofs.lemmas.Bool.Decides.{nat_tests}
use Rattle.std.proofs.lemmas.List.{take_more}
use Rattle.std.proofs.lemmas.List.Elements.{All-push, All-weaker, All-contains, Contains-push, Contains-push_cases, Contains-append_left}
use Rattle.std.proofs.lemmas.List.Sums.{sum_by-cons, count_by-le-length}
use Rattle.go_word.specs.declared.pin.Pin.{Pin}
use Rattle.go_word.specs.Pins.{is_named, has_name}
use Rattle.go_shard.specs.declared.fronts.FrontRange.{FrontRange}
use Rattle.go_shard.specs.Fronts.{IsIn, IsInOne, IsGreatest, IsLeast}
use Rattle.go_shard.specs.ShardState.{ShardState, Keeps, IsSound}
use Rattle.go_shard.specs.Stands.{IsSettled}

-- without a range the greatest front is the least one
pub greatest_none : (least bound : ℕ) → least ≤ bound → IsGreatest [] least bound least
greatest_none least bound within = record {
  from = omega arith;
  within = within;
  one = inl refl;
  greatest = λ f below one. absurd (omega (arith, one.there.1));
}

-- a front in some ranges and one more is in those or in that
in_push : (f : ℕ) (ranges : List FrontRange) (range : FrontRange) → IsInOne f (ranges ++ range ∷ []) → IsInOne f ranges ⊎ IsIn f range
in_push f ranges range one = elim (Contains-push_cases ranges range one.range one.there) [
  | inl old ↦ inl (record { range = one.range; there = old; within = one.within })
  | inr now ↦ inr (subst (IsIn f) (sym now) one.within)
]

in_more : (f : ℕ) (ranges : List FrontRange) (range : FrontRange) → IsInOne f ranges → IsInOne f (ranges ++ range ∷ [])
in_more f ranges range one = record { range = one.range; there = Contains-append_left ranges (range ∷ []) one.range one.there; within = one.within }

-- one range more, which reaches below the bound
pub greatest_taken : (ranges : List FrontRange) (range : FrontRange) (least bound greatest end : ℕ) → IsGreatest ranges least bound greatest →
    end ≡ min bound range.last → range.first ≤ end → IsGreatest (ranges ++ range ∷ []) least bound (max greatest end)
greatest_taken ranges range least bound greatest end is ends reaches = record {
  from = omega (arith, is.from);
  within = omega (arith, is.within, ends);
  one = elim (cases_lt greatest end) as (λ _. (max greatest end ≡ least) ⊎ IsInOne (max greatest end) (ranges ++ range ∷ [])) [
    | inl more ↦
        let here : max greatest end ≡ end = omega (arith, more) in
        inr (record {
          range = range;
          there = Contains-push ranges range;
          within =
              record { from = omega (arith, here, reaches); to = omega (arith, here, ends) };
        })
    | inr no_more ↦
        let here : greatest ≡ max greatest end = omega (arith, no_more) in
        subst (λ (n : ℕ). (n ≡ least) ⊎ IsInOne n (ranges ++ range ∷ [])) here (either is.one)
  ];
  greatest = λ f below one. elim (in_push f ranges range one) [
    | inl old ↦ omega (arith, is.greatest f below old)
    | inr now ↦ omega (arith, now.to, below, ends)
  ];
} where
  either : (greatest ≡ least) ⊎ IsInOne greatest ranges → (greatest ≡ least) ⊎ IsInOne greatest (ranges ++ range ∷ [])
  either (inl same) = inl same
  either (inr one) = inr (in_more greatest ranges range one)

-- one range more, which begins past the bound
pub greatest_passed : (ranges : List FrontRange) (range : FrontRange) (least bound greatest end : ℕ) → IsGreatest ranges least bound greatest →
    end ≡ min bound range.last → end < range.first → IsGreatest (ranges ++ range ∷ []) least bound greatest
greatest_passed ranges range least bound greatest end is ends past = record {
  from = is.from;
  within = is.within;
  one = either is.one;
  greatest = λ f below one. elim (in_push f ranges range one) [
    | inl old ↦ is.greatest f below old
    | inr now ↦ absurd (omega (arith, now.from, now.to, below, ends, past))
  ];
} where
  either : (greatest ≡ least) ⊎ IsInOne greatest ranges → (greatest ≡ least) ⊎ IsInOne greatest (ranges ++ range ∷ [])
  either (inl same) = inl same
  either (inr one) = inr (in_more greatest ranges range one)

-- one pin more
pub least_push : (pins : List Pin) (pin : Pin) (limit least : ℕ) → IsLeast pins limit least → IsLeast (pins ++ pin ∷ []) limit (min least pin.front)
least_push pins pin limit least is = record {
  within = omega (arith, is.within);
  pinned = All-push (λ p. min least pin.front ≤ p.front) pins pin
      (All-weaker (λ p. least ≤ p.front) (λ p. min least pin.front ≤ p.front) (λ p h. omega (arith, h)) pins is.pinned) (omega arith);
  greatest = λ f below all.
      let last : f ≤ pin.front = All-contains (λ p. f ≤ p.front) (pins ++ pin ∷ []) pin all (Contains-push pins pin) in
      let others : All (λ p. f ≤ p.front) pins = λ k d within. All-contains (λ p. f ≤ p.front) (pins
      ++ pin ∷ []) (get_or pins k d) all (Contains-append_left pins (pin ∷ []) (get_or pins k d) (k, within, same pins k d (get_or pins k d) within)) in
      omega (arith, last, is.greatest f below others);
} where
  same : (xs : List Pin) (k : ℕ) (d e : Pin) → k < length xs → get_or xs k (get_or xs k d) ≡ get_or xs k d
  same [] k d e within = absurd (omega (arith, within))
  same (x ∷ xs) zero d e within = refl
  same (x ∷ xs) (suc k) d e within = same xs k d e (omega (arith, within))

-- how many pins have a name from a number on
abbrev pub named_from : ℕ → List Pin → ℕ
named_from id pins = count_by (λ pin. nat_le id pin.id) pins

-- there are fewer from the next number on, where the number is one's name
named_fewer : (id : ℕ) (pins : List Pin) → named_from (id + 1) pins ≤ named_from id pins
named_fewer id [] = omega arith
named_fewer id (p ∷ pins) =
    let rest = named_fewer id pins in
    let here : (if nat_le (id + 1) p.id then 1 else 0) ≤ (if nat_le id p.id then 1 else 0) = grind (arith, nat_tests) in
    omega (
      arith,
      here,
      rest,
      sum_by-cons (λ (q : Pin). if nat_le (id + 1) q.id then 1 else 0) p pins,
      sum_by-cons (λ (q : Pin). if nat_le id q.id then 1 else 0) p pins,
    )

pub named_next : (id : ℕ) (pins : List Pin) → has_name id pins ≡ true → named_from (id + 1) pins + 1 ≤ named_from id pins
named_next id [] there = absurd (let h : false ≡ true = there in cc)
named_next id (p ∷ pins) there = by (is_named id p) refl there (named_next id pins) where
  by : (b : Bool) → is_named id p ≡ b → has_name id (p ∷ pins) ≡ true → (has_name id pins ≡ true → named_from (id + 1) pins + 1 ≤ named_from id pins) →
      named_from (id + 1) (p ∷ pins) + 1 ≤ named_from id (p ∷ pins)
  by true is there next =
      let same : p.id ≡ id = grind (arith, nat_tests, is) in
      let before : (if nat_le (id + 1) p.id then 1 else 0) ≤ 0 = grind (arith, nat_tests, same) in
      let now : 1 ≤ (if nat_le id p.id then 1 else 0) = grind (arith, nat_tests, same) in
      omega (
        arith,
        before,
        now,
        named_fewer id pins,
        sum_by-cons (λ (q : Pin). if nat_le (id + 1) q.id then 1 else 0) p pins,
        sum_by-cons (λ (q : Pin). if nat_le id q.id then 1 else 0) p pins,
      )
  by false is there next =
      let behind : has_name id pins ≡ true = rw is at there in
      let rest = next behind in
      let here : (if nat_le (id + 1) p.id then 1 else 0) ≤ (if nat_le id p.id then 1 else 0) = grind (arith, nat_tests) in
      omega (
        arith,
        here,
        rest,
        sum_by-cons (λ (q : Pin). if nat_le (id + 1) q.id then 1 else 0) p pins,
        sum_by-cons (λ (q : Pin). if nat_le id q.id then 1 else 0) p pins,
      )

pub named_all : (pins : List Pin) → named_from 0 pins ≤ length pins
named_all pins = count_by-le-length (λ pin. nat_le 0 pin.id) pins

-- a list whose first elements are changed, and one more
pub changed_next : (f : Pin → Pin) (old now : List Pin) (i : ℕ) (d new : Pin) → i < length old → now ≡ map f (take i old) ++ drop i old →
    new ≡ f (get_or old i d) →
    set now i new ≡ map f (take (suc i) old) ++ drop (suc i) old
changed_next f [] now i d new within so_far is = absurd (omega (arith, within))
changed_next f (x ∷ old) now zero d new within so_far is = ap (λ (l : List Pin). set l 0 new) so_far ∙ ap (λ (p : Pin). p ∷ old) is
changed_next f (x ∷ old) now (suc i) d new within so_far is =
    ap (λ (l : List Pin). set l (suc i) new) so_far ∙ ap (λ (l : List Pin). f x ∷ l) (changed_next f old (map f (take i old)
    ++ drop i old) i d new (omega (arith, within)) refl is)

pub changed_read : (f : Pin → Pin) (old now : List Pin) (i : ℕ) (d : Pin) → i < length old → now ≡ map f (take i old) ++ drop i old →
    get_or now i d ≡ get_or old i d
changed_read f [] now i d within so_far = absurd (omega (arith, within))
changed_read f (x ∷ old) now zero d within so_far = ap (λ (l : List Pin). get_or l 0 d) so_far
changed_read f (x ∷ old) now (suc i) d within so_far =
    ap (λ (l : List Pin). get_or l (suc i) d) so_far ∙ changed_read f old (map f (take i old) ++ drop i old) i d (omega (arith, within)) refl

-- up to which front a shard may be compacted: by its earlier ranges alone
pub settled_early : (shard : ShardState) (limit bound greatest : ℕ) → IsSound shard → shard.cut ≤ limit → IsLeast shard.pins limit bound →
    IsGreatest shard.fronts.earlier shard.cut bound greatest → bound < shard.fronts.since → IsSettled shard limit greatest
settled_early shard limit bound greatest sound from least is before = record {
  kept = either is.one;
  uncut = is.from;
  within = omega (arith, is.within, least.within);
  pinned = All-weaker (λ p. bound ≤ p.front) (λ p. greatest ≤ p.front) (λ p h. omega (arith, h, is.within)) shard.pins least.pinned;
  greatest = λ f kept below all. up f kept (least.greatest f below all);
} where
  either : (greatest ≡ shard.cut) ⊎ IsInOne greatest shard.fronts.earlier → Keeps shard greatest
  either (inl same) = subst (Keeps shard) (sym same) sound.keeps_cut
  either (inr one) = inl one

  up : (f : ℕ) → Keeps shard f → f ≤ bound → f ≤ greatest
  up f (inl one) below = is.greatest f below one
  up f (inr late) below = absurd (omega (arith, late.0, below, before))

-- and by the last one
pub settled_late : (shard : ShardState) (limit bound greatest : ℕ) → IsSound shard → shard.cut ≤ limit → IsLeast shard.pins limit bound →
    IsGreatest shard.fronts.earlier shard.cut bound greatest → shard.fronts.since ≤ bound → IsSettled shard limit (max greatest (min bound shard.front))
settled_late shard limit bound greatest sound from least is after = record {
  kept = elim (cases_lt greatest (min bound shard.front)) as (λ _. Keeps shard (max greatest (min bound shard.front))) [
    | inl more ↦ inr (omega (arith, more, after, sound.bounds.since), omega (arith, more))
    | inr no_more ↦
        let here : greatest ≡ max greatest (min bound shard.front) = omega (arith, no_more) in
        subst (Keeps shard) here (either is.one)
  ];
  uncut = omega (arith, is.from);
  within = omega (arith, is.within, least.within);
  pinned = All-weaker (λ p. bound ≤ p.front) (λ p. max greatest (min bound shard.front) ≤ p.front) (λ p h. omega (arith, h, is.within)) shard.pins least.pinned;
  greatest = λ f kept below all. up f kept (least.greatest f below all);
} where
  either : (greatest ≡ shard.cut) ⊎ IsInOne greatest shard.fronts.earlier → Keeps shard greatest
  either (inl same) = subst (Keeps shard) (sym same) sound.keeps_cut
  either (inr one) = inl one

  up : (f : ℕ) → Keeps shard f → f ≤ bound → f ≤ max greatest (min bound shard.front)
  up f (inl one) below = omega (arith, is.greatest f below one)
  up f (inr late) below = omega (arith, late.1, below)

-- the least of a shard's pins and a limit is no lower than its cut
pub least_uncut : (shard : ShardState) (limit bound : ℕ) → IsSound shard → shard.cut ≤ limit → IsLeast shard.pins limit bound → shard.cut ≤ bound
least_uncut shard limit bound sound from least = least.greatest shard.cut from (λ k d within. (sound.pins k d within).uncut)

-- a number that is the name of one of the pins, and one that is none of the first
pub has_at : (id : ℕ) (pins : List Pin) (i : ℕ) (d : Pin) → i < length pins → is_named id (get_or pins i d) ≡ true → true ≡ has_name id pins
has_at id [] i d within named = absurd (omega (arith, within))
has_at id (p ∷ pins) zero d within named = sym (rw named refl)
has_at id (p ∷ pins) (suc i) d within named = by (is_named id p) refl (has_at id pins i d (omega (arith, within)) named) where
  by : (b : Bool) → is_named id p ≡ b → true ≡ has_name id pins → true ≡ has_name id (p ∷ pins)
  by true is rest = sym (rw is refl)
  by false is rest = rest ∙ sym (rw is refl)

pub none_named : (id : ℕ) (pins : List Pin) (pin : Pin) → has_name id pins ≡ false → is_named id pin ≡ false → has_name id (pins ++ pin ∷ []) ≡ false
none_named id [] pin none other = rw other refl
none_named id (p ∷ pins) pin none other = by (is_named id p) refl (none_named id pins pin) none where
  by : (b : Bool) → is_named id p ≡ b → (has_name id pins ≡ false → is_named id pin ≡ false → has_name id (pins ++ pin ∷ []) ≡ false) →
      has_name id (p ∷ pins) ≡ false →
      has_name id (p ∷ pins ++ pin ∷ []) ≡ false
  by true is rest none = absurd (true≢false (sym (rw is refl) ∙ none))
  by false is rest none = rw is (rest (rw is at none) other)

-- the steps of the loops, by equations
pub greatest_step : (ranges : List FrontRange) (i : ℕ) (d : FrontRange) (least bound greatest end next : ℕ) → i < length ranges →
    IsGreatest (take i ranges) least bound greatest →
    end ≡ min bound (get_or ranges i d).last → (((get_or ranges i d).first ≤ end) × (next ≡ max greatest end))
    ⊎ ((end < (get_or ranges i d).first) × (next ≡ greatest)) →
    IsGreatest (take (i + 1) ranges) least bound next
greatest_step ranges i d least bound greatest end next within is ends (inl taken) =
    rw (take_more ranges i d within, taken.1) (greatest_taken (take i ranges) (get_or ranges i d) least bound greatest end is ends taken.0)
greatest_step ranges i d least bound greatest end next within is ends (inr passed) =
    rw (take_more ranges i d within, passed.1) (greatest_passed (take i ranges) (get_or ranges i d) least bound greatest end is ends passed.0)

pub least_step : (pins : List Pin) (i : ℕ) (d : Pin) (limit least next : ℕ) → i < length pins → IsLeast (take i pins) limit least →
    next ≡ min least (get_or pins i d).front →
    IsLeast (take (i + 1) pins) limit next
least_step pins i d limit least next within is next_is = rw (take_more pins i d within, next_is) (least_push (take i pins) (get_or pins i d) limit least is)

pub changed_step : (f : Pin → Pin) (old now : List Pin) (i : ℕ) (d new : Pin) → i < length old → now ≡ map f (take i old) ++ drop i old →
    new ≡ f (get_or now i d) →
    set now i new ≡ map f (take (i + 1) old) ++ drop (i + 1) old
changed_step f old now i d new within so_far is =
    subst (λ (n : ℕ). set now i new ≡ map f (take n old) ++ drop n old) (let e : suc i ≡ i + 1 = omega arith in e)
    (changed_next f old now i d new within so_far (is ∙ ap f (changed_read f old now i d within so_far)))
