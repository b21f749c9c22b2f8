-- Lemmas on the lanes of a shard: one by one, and through a batch.
use Rattle.std.proofs.Common.{◌≡◌, ℕ, suc, drop, ◌<◌, ◌≤◌, ◌≢◌, ◌+◌, ◌-◌, ◌/◌, ◌^◌, Bool, true, false, List, [], ◌∷◌, ◌++◌, length, get_or, take, filter}
use Rattle.std.proofs.Common.{fold, map, count_by, All, refl, sym, ap, ◌∙◌, subst, arith, inl, inr, ◌⊎◌, append_assoc, append-nil, length-append}
use Rattle.std.proofs.lemmas.Bool.{cases_lt, true≢false}
use Rattle.std.proofs.lemmas.Bool.Decides.{nat_tests}
use Rattle.std.proofs.lemmas.List.{get_or_past, get_or_default, take-append-drop, length-map}
use Rattle.std.proofs.lemmas.List.Sums.{count_by_more_yes, count_by-le-length, length-filter, sum_by-append}
use Rattle.std.specs.Prelude.{◌==◌, if◌then◌else◌, Result, Ok, Err, OnOk, OnErr}
use Rattle.std.specs.Result.{is_err}
use Rattle.go_word.specs.declared.edge.Edge.{Edge}
use Rattle.go_word.specs.Word.{plain_word}
use Rattle.go_versions.specs.Version.{Version}
use Rattle.go_shard.specs.Lane.{Lane, empty_lane, promising, accepting, known, lane_at, is_at, IsAhead, IsRestored}

-- what holds of each lane and of an empty one holds at any place
pub lane_at-All : (P : Lane → Type 0) (lanes : List Lane) (place : ℕ) → All P lanes → P empty_lane → P (lane_at lanes place)
lane_at-All P lanes place all empty = elim (cases_lt place (length lanes)) [
  | inl lt ↦ all place empty_lane lt
  | inr ge ↦
      (let past : length lanes ≤ place = ge in rw get_or_past empty)
]

-- a lane with nothing promised is what it is
pub promising-same : (lane : Lane) → lane.promised ≡ 0 → promising lane 0 ≡ lane
promising-same lane settled = ap (promising lane) (sym settled)

-- lanes that are the same at each place are the same
pub lanes-same : (xs ys : List Lane) → length xs ≡ length ys → ((place : ℕ) → lane_at xs place ≡ lane_at ys place) → xs ≡ ys
lanes-same [] [] equal same = refl
lanes-same [] (y ∷ ys) equal same = absurd (omega arith)
lanes-same (x ∷ xs) [] equal same = absurd (omega arith)
lanes-same (x ∷ xs) (y ∷ ys) equal same =
    let head : x ≡ y = same 0 in
    let rest : xs ≡ ys = lanes-same xs ys (omega arith) (λ place. same (suc place)) in
    cc

-- what holds of each lane, and whatever is promised, still holds with places promised
pub promised-All : (P : Lane → Type 0) (old new : List Lane) (count : ℕ → ℕ) → length new ≡ length old
    → ((lane : Lane) (n : ℕ) → P lane → P (promising lane n))
    → ((place : ℕ) → lane_at new place ≡ promising (lane_at old place) (count place))
    → All P old → All P new
promised-All P old new count equal any same all = λ k d within.
    subst P (get_or_default new k empty_lane d within) (subst P (sym (same k)) (any (lane_at old k) (count k) (all k empty_lane (omega arith))))

-- a front that is ahead is so whatever is promised
pub IsAhead-promising : (front : ℕ) (lane : Lane) (n : ℕ) → IsAhead front lane → IsAhead front (promising lane n)
IsAhead-promising front lane n ahead = record { later = ahead.later; no_less = ahead.no_less }

-- a lane that takes fewer words than are promised has them behind its words, and notes nothing yet
pub accepting-some : (front : ℕ) (lane : Lane) (ws : List ℕ) → length ws < lane.promised →
    fold (accepting front) lane ws ≡ record lane { words = lane.words ++ ws; promised = lane.promised - length ws }
accepting-some front lane [] few = let none : lane.promised - 0 ≡ lane.promised = omega arith in rw (append-nil, none) refl
accepting-some front lane (w ∷ ws) few =
    let not_last : (lane.promised == 1) ≡ false = grind (arith, nat_tests) in
    let next : accepting front lane w ≡ record lane { words = lane.words ++ w ∷ []; promised = lane.promised - 1 } = rw not_last refl in
    let left : lane.promised - 1 - length ws ≡ lane.promised - suc (length ws) = omega arith in
    let words : (lane.words ++ w ∷ []) ++ ws ≡ lane.words ++ w ∷ ws = append_assoc lane.words (w ∷ []) ws in
    ap (λ l. fold (accepting front) l ws) next ∙ accepting-some front (record lane {
      words = lane.words ++ w ∷ [];
      promised =
          lane.promised - 1;
    }) ws (omega arith) ∙ rw (left, words) refl

-- a lane that takes all that was promised notes their count
pub accepting-all : (front : ℕ) (lane : Lane) (w : ℕ) (ws : List ℕ) → suc (length ws) ≡ lane.promised →
    fold (accepting front) lane (w ∷ ws) ≡ record lane {
      words = lane.words ++ w ∷ ws;
      versions =
          lane.versions ++ record { front = front; count = known lane + suc (length ws) } ∷ [];
      promised = 0;
    }
accepting-all front lane w [] all =
    let last : (lane.promised == 1) ≡ true = grind (arith, nat_tests) in
    let none : lane.promised - 1 ≡ 0 = omega arith in
    rw (last, none) refl
accepting-all front lane w (v ∷ ws) all =
    let not_last : (lane.promised == 1) ≡ false = grind (arith, nat_tests) in
    let next : accepting front lane w ≡ record lane { words = lane.words ++ w ∷ []; promised = lane.promised - 1 } = rw not_last refl in
    let words : (lane.words ++ w ∷ []) ++ v ∷ ws ≡ lane.words ++ w ∷ v ∷ ws = append_assoc lane.words (w ∷ []) (v ∷ ws) in
    let count : lane.floor + length (lane.words ++ w ∷ []) + suc (length ws) ≡ known lane + suc (suc (length ws)) = rw length-append (omega arith) in
    ap (λ l. fold (accepting front) l (v ∷ ws)) next ∙ accepting-all front (record lane {
      words = lane.words ++ w ∷ [];
      promised =
          lane.promised - 1;
    }) v ws (omega arith) ∙ rw (words, count) refl

-- of a list no part counts more than the whole
count_by-take : (p : Edge → Bool) (n : ℕ) (xs : List Edge) → count_by p (take n xs) ≤ count_by p xs
count_by-take p n xs =
    let cut : count_by p (take n xs ++ drop n xs) ≡ count_by p (take n xs) + count_by p (drop n xs) =
    sum_by-append (λ x. if p x then 1 else 0) (take n xs) (drop n xs) in
    let whole : count_by p (take n xs ++ drop n xs) ≡ count_by p xs = ap (count_by p) (take-append-drop n xs) in
    omega arith

-- before an entry that is counted there were fewer than in the whole
pub count_by-before : (p : Edge → Bool) (xs : List Edge) (i : ℕ) (d : Edge) → i < length xs → p (get_or xs i d) ≡ true → count_by p (take i xs) < count_by p xs
count_by-before p xs i d within counted =
    let more : count_by p (take (i + 1) xs) ≡ count_by p (take i xs) + 1 = count_by_more_yes p xs i d within counted in
    let part : count_by p (take (i + 1) xs) ≤ count_by p xs = count_by-take p (i + 1) xs in
    omega arith

-- what a lane needs of its next word: it was promised, the front is ahead, and the count fits
pub record IsReadyFor (front : ℕ) (lane : Lane) : Type 0 where
  pub some : 0 < lane.promised
  pub ahead : IsAhead front lane
  pub small : known lane + 1 < 2 ^ 32

-- so far, each lane is ready for its next entry of the batch
pub accept_ready : (shards front : ℕ) (before lane : Lane) (batch : List Edge) (i p : ℕ) (d : Edge) → i < length batch → (get_or batch i d).src / shards ≡ p
    → before.promised ≡ count_by (is_at shards p) batch → IsAhead front before → known before + length batch < 2 ^ 32
    → lane ≡ fold (accepting front) before (map plain_word (filter (is_at shards p) (take i batch)))
    → IsReadyFor front lane
accept_ready shards front before lane batch i p d within at promised ahead small so_far =
    let here : is_at shards p (get_or batch i d) ≡ true = grind (arith, nat_tests) in
    let count : length (map plain_word (filter (is_at shards p) (take i batch))) ≡ count_by (is_at shards p) (take i batch) =
    length-map (filter (is_at shards p) (take i batch)) plain_word ∙ length-filter (is_at shards p) (take i batch) in
    let fewer : count_by (is_at shards p) (take i batch) < count_by (is_at shards p) batch = count_by-before (is_at shards p) batch i d within here in
    let all : count_by (is_at shards p) batch ≤ length batch = count_by-le-length (is_at shards p) batch in
    let few : length (map plain_word (filter (is_at shards p) (take i batch))) < before.promised = omega arith in
    let is = so_far ∙ accepting-some front before (map plain_word (filter (is_at shards p) (take i batch))) few in
    let longer = length-append before.words (map plain_word (filter (is_at shards p) (take i batch))) in
    rw is (record {
      some = omega arith;
      ahead = record { later = ahead.later; no_less = λ k d inside. let h = ahead.no_less k d inside in omega arith };
      small = omega arith;
    })

-- a number is 0 or not
pub nat_zero_or_not : (n : ℕ) → (n ≡ 0) ⊎ (n ≢ 0)
nat_zero_or_not n = elim (cases_lt 0 n) [ inl some ↦ inr (λ e. omega arith) | inr none ↦ inl (omega arith) ]

-- a lane whose promises were withdrawn is what it was
pub restored : (named : ℕ) (old mid new : Lane) → IsRestored named old mid → new ≡ (if named == 0 then mid else promising mid 0) → new ≡ old
restored named old mid new kept withdrawn =
    let untouched : named ≡ 0 → mid ≡ old = kept.untouched in
    let back : promising mid 0 ≡ old = kept.back in
    let none : named ≡ 0 → new ≡ mid = λ e. withdrawn ∙ ap (λ (b : Bool). if b then mid else promising mid 0) (let t : (named == 0) ≡ true =
    grind (arith, nat_tests) in t) in
    let some : named ≢ 0 → new ≡ promising mid 0 = λ ne. withdrawn ∙ ap (λ (b : Bool). if b then mid else promising mid 0) (let t : (named == 0) ≡ false =
    grind (arith, nat_tests) in t) in
    elim (nat_zero_or_not named) [ inl e ↦ none e ∙ untouched e | inr ne ↦ some ne ∙ back ]

-- what holds anyway holds on an `Err`
pub on_err : {T E : Type 0} (P : Type 0) (r : Result T E) → P → OnErr r P
on_err P (Ok x) h = tt
on_err P (Err e) h = h

-- a lane that takes some words, no more than are promised, has them behind its words, and notes their count with the last promised
pub accepting-words : (front : ℕ) (lane : Lane) (ws : List ℕ) → 0 < length ws → length ws ≤ lane.promised →
    fold (accepting front) lane ws ≡ record lane {
      words = lane.words ++ ws;
      versions = if lane.promised - length ws == 0
          then lane.versions ++ record { front = front; count = known lane + length ws } ∷ [] else lane.versions;
      promised = lane.promised - length ws;
    }
accepting-words front lane [] some few = absurd (omega arith)
accepting-words front lane (w ∷ ws) some few = elim (cases_lt (suc (length ws)) lane.promised) [
  | inl less ↦
      let left : (lane.promised - suc (length ws) == 0) ≡ false = grind (arith, nat_tests) in
      rw left (accepting-some front lane (w ∷ ws) less)
  | inr all ↦
      let same : suc (length ws) ≡ lane.promised = omega arith in
      let none : lane.promised - suc (length ws) ≡ 0 = omega arith in
      rw none (accepting-all front lane w ws same)
]

-- a lane with words behind its own, and their count noted where all promised ones came, has taken them
pub accepted_last : (front : ℕ) (lane : Lane) (ws words : List ℕ) (versions : List Version) (promised count : ℕ) → 0 < length ws →
    length ws ≤ lane.promised → promised ≡ lane.promised - length ws → promised ≡ 0 → words ≡ lane.words ++ ws → count ≡ lane.floor + length words →
    versions ≡ lane.versions ++ record { front = front; count = count } ∷ []
    → record lane { words = words; versions = versions; promised = promised } ≡ fold (accepting front) lane ws
accepted_last front lane ws words versions promised count some few left none longer counted noted =
    let last : (lane.promised - length ws == 0) ≡ true = grind (arith, nat_tests, left, none) in
    let total : count ≡ known lane + length ws = omega (arith, counted, ap length longer, length-append lane.words ws) in
    rw (longer, noted, left, total) (sym (accepting-words front lane ws some few ∙ rw last refl))

pub accepted_some : (front : ℕ) (lane : Lane) (ws words : List ℕ) (promised : ℕ) → 0 < length ws → length ws ≤ lane.promised →
    promised ≡ lane.promised - length ws → promised ≢ 0 → words ≡ lane.words ++ ws
    → record lane { words = words; promised = promised } ≡ fold (accepting front) lane ws
accepted_some front lane ws words promised some few left more longer =
    let not_last : (lane.promised - length ws == 0) ≡ false = grind (arith, nat_tests, left, more) in
    rw (longer, left) (sym (accepting-words front lane ws some few ∙ rw not_last refl))

-- what holds on an `Ok` holds where there is no `Err`
pub at_ok : {T E : Type 0} (P : Type 0) (r : Result T E) → is_err r ≡ false → OnOk r P → P
at_ok P (Ok x) none h = h
at_ok P (Err e) none h = absurd (true≢false none)

-- and what holds on an `Err` holds where there is one
pub at_err : {T E : Type 0} (P : Type 0) (r : Result T E) → is_err r ≡ true → OnErr r P → P
at_err P (Ok x) some h = absurd (true≢false (sym some))
at_err P (Err e) some h = h
