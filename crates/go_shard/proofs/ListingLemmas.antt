-- Lemmas on the places that are listed: through a batch, and through a compaction.
use Rattle.std.proofs.Common.{◌≡◌, ◌≢◌, ◌⊎◌, ℕ, ◌+◌, ◌<◌, ◌≤◌, Bool, true, false, List, [], ◌∷◌, ◌++◌, length, take, drop, set}
use Rattle.std.proofs.Common.{get_or, count_by, refl, sym, ap, subst, ◌∙◌, arith, inl, inr, take_all, ◌/◌, if◌then◌else◌, length-append}
use Rattle.std.specs.Prelude.{All, Contains, nat_lt}
use Rattle.std.proofs.lemmas.Bool.{cases_lt, cases_eq, true≢false, lt-ltb}
use Rattle.std.proofs.lemmas.Bool.Decides.{nat_tests}
use Rattle.std.proofs.lemmas.List.{take-append-le, take-append-drop, get_or_default, get_or_past, get_or-set_other}
use Rattle.std.proofs.lemmas.Grind.{get_or-set_at}
use Rattle.std.proofs.lemmas.List.Elements.{All-push, Contains-push, Contains-append_left}
use Rattle.std.proofs.lemmas.List.Sums.{count_by_more_yes, count_by_more_no}
use Rattle.go_word.specs.declared.edge.Edge.{Edge}
use Rattle.go_shard.specs.Lane.{Lane, empty_lane, lane_at, is_at, promising}
use Rattle.go_shard.specs.Groups.{size_at}
use Rattle.go_shard.specs.Listing.{AreListed, ListsBare, is_bare, HasListed}

-- before the batch nothing is listed
pub lists_none : (lanes : List Lane) (named : ℕ → ℕ) (old : List ℕ) → ((p : ℕ) → named p ≡ 0) → ListsBare lanes named old old
lists_none lanes named old none = record {
  kept = take_all (length old) old (omega arith);
  inside = λ all. all;
  added = λ p some bare. absurd (omega (arith, none p, some));
}

-- one place more is named, and listed
pub lists_place : (lanes : List Lane) (named more : ℕ → ℕ) (old new : List ℕ) (p : ℕ) → ListsBare lanes named old new → p < length lanes →
    ((q : ℕ) → q ≢ p → more q ≡ named q) → ListsBare lanes more old (new ++ p ∷ [])
lists_place lanes named more old new p lists within others = record {
  kept = take-append-le (length old) new (p ∷ []) (longer old new lists.kept) ∙ lists.kept;
  inside = λ all. All-push (λ place. place < length lanes) new p (lists.inside all) within;
  added = λ q some bare. elim (cases_eq q p) [
    | inl same ↦ subst (Contains (new ++ p ∷ [])) (sym same) (Contains-push new p)
    | inr other ↦ Contains-append_left new (p ∷ []) q (lists.added q (subst (λ (n : ℕ). 0 < n) (others q other) some) bare)
  ];
} where
  longer : (xs ys : List ℕ) → take (length xs) ys ≡ xs → length xs ≤ length ys
  longer [] ys same = omega arith
  longer (x ∷ xs) [] same = absurd (omega (arith, ap length same))
  longer (x ∷ xs) (y ∷ ys) same = (let rest = longer xs ys (tail_same x y (take (length xs) ys) xs same) in omega (arith, rest)) where
    tail_same : (x y : ℕ) (ps qs : List ℕ) → y ∷ ps ≡ x ∷ qs → ps ≡ qs
    tail_same x y ps qs same = cc

-- one place more is named, whose lane has words or was named before
pub lists_known : (lanes : List Lane) (named more : ℕ → ℕ) (old new : List ℕ) (p : ℕ) → ListsBare lanes named old new →
    ((lane_at lanes p).words ≡ [] → 0 < named p) →
    ((q : ℕ) → q ≢ p → more q ≡ named q) → ListsBare lanes more old new
lists_known lanes named more old new p lists known others = record {
  kept = lists.kept;
  inside = lists.inside;
  added = λ q some bare. elim (cases_eq q p) [
    | inl same ↦ lists.added q (subst (λ (n : ℕ). 0 < named n) (sym same) (known (subst (λ (n : ℕ). (lane_at lanes n).words ≡ []) same bare))) bare
    | inr other ↦ lists.added q (subst (λ (n : ℕ). 0 < n) (others q other) some) bare
  ];
}

-- the same places are named
pub lists_same : (lanes : List Lane) (named more : ℕ → ℕ) (old new : List ℕ) → ListsBare lanes named old new → ((q : ℕ) → more q ≡ named q) →
    ListsBare lanes more old new
lists_same lanes named more old new lists same = record {
  kept = lists.kept;
  inside = lists.inside;
  added = λ q some bare. lists.added q (subst (λ (n : ℕ). 0 < n) (same q) some) bare;
}

-- where more places are named than before, none of them is new
pub lists_more : (lanes : List Lane) (named more : ℕ → ℕ) (old new : List ℕ) → ListsBare lanes named old new → ((q : ℕ) → 0 < more q → 0 < named q) →
    ListsBare lanes more old new
lists_more lanes named more old new lists had = record {
  kept = lists.kept;
  inside = lists.inside;
  added = λ q some bare. lists.added q (had q some) bare;
}

-- all groups were looked at
pub listed_groups : (lanes : List Lane) (ends : List ℕ) (n : ℕ) (old new : List ℕ) → length ends ≤ n →
    ListsBare lanes (λ q. if nat_lt q n then size_at ends q else 0) old new → ListsBare lanes (size_at ends) old new
listed_groups lanes ends n old new all lists = lists_more lanes (λ q. if nat_lt q n then size_at ends q else 0) (size_at ends) old new lists had where
  had : (q : ℕ) → 0 < size_at ends q → 0 < (if nat_lt q n then size_at ends q else 0)
  had q some = elim (cases_lt q n) [
    | inl within ↦ (let yes : nat_lt q n ≡ true = lt-ltb q n within in rw yes some)
    | inr past ↦ absurd (omega (arith, some, get_or_past ends q 0 (omega (arith, past, all))))
  ]

-- a lane without words that isn't bare was promised some
bare_promised : (lane : Lane) (count : ℕ) → is_bare (promising lane count) ≡ false → lane.words ≡ [] → 0 < count
bare_promised lane count other bare = elim (cases_lt 0 count) [
  | inl some ↦ some
  | inr none ↦ absurd (true≢false (sym (is count none) ∙ other))
] where
  is : (n : ℕ) → n ≤ 0 → is_bare (promising lane n) ≡ true
  is n none = (let zero : n ≡ 0 = omega (arith, none) in rw (bare, zero) refl)

-- the next entry of a batch leaves the vertex of a lane
pub record IsNextAt (shards : ℕ) (batch : List Edge) (i : ℕ) (d : Edge) (now : List Lane) (p : ℕ) (was : Lane) : Type 0 where
  pub within : i < length batch
  pub at : p ≡ (get_or batch i d).src / shards
  pub inside : p < length now
  pub read : was ≡ get_or now p was

-- a place is promised to each of the first entries of a batch, and to no more
abbrev pub PromisedFirst : ℕ → List Edge → ℕ → List Lane → List Lane → Type 0
PromisedFirst shards batch i old now = (q : ℕ) → lane_at now q ≡ promising (lane_at old q) (count_by (is_at shards q) (take i batch))

-- one entry more is promised its place
pub promised_entry : {shards : ℕ} {batch : List Edge} {i p : ℕ} {d : Edge} {now : List Lane} {was : Lane} (old : List Lane) (new : Lane) →
    IsNextAt shards batch i d now p was → new ≡ promising was (was.promised + 1) →
    PromisedFirst shards batch i old now → PromisedFirst shards batch (i + 1) old (set now p new)
promised_entry {shards} {batch} {i} {p} {d} {now} {was} old new next is so_far q = elim (cases_eq q p) [
  | inl same ↦
      let here : is_at shards q (get_or batch i d) ≡ true = grind (arith, nat_tests, same, next.at) in
      let more = count_by_more_yes (is_at shards q) batch i d next.within here in
      let lane : was ≡ promising (lane_at old q) (count_by (is_at shards q) (take i batch)) =
      next.read ∙ get_or_default now p was empty_lane next.inside ∙ ap (lane_at now) (sym same) ∙ so_far q in
      get_or-set_at now p q new empty_lane same next.inside ∙ is ∙ ap (λ (l : Lane). promising l (l.promised + 1)) lane
      ∙ ap (promising (lane_at old q)) (sym more)
  | inr other ↦
      let there : is_at shards q (get_or batch i d) ≡ false = grind (arith, nat_tests, other, next.at) in
      let more = count_by_more_no (is_at shards q) batch i d next.within there in
      get_or-set_other now p q new empty_lane other ∙ so_far q ∙ ap (promising (lane_at old q)) (sym more)
]

-- where some are promised, the lane isn't bare
not_none : (more : ℕ) (bare : Bool) → 0 < more → (more ≡ 0) ⊎ (bare ≡ false) → bare ≡ false
not_none more bare some (inl none) = absurd (omega (arith, some, none))
not_none more bare some (inr other) = other

-- and listed where its lane is bare
pub listed_entry : {shards : ℕ} {batch : List Edge} {i p : ℕ} {d : Edge} {now : List Lane} {was : Lane} (old : List Lane) (before listed new : List ℕ) →
    IsNextAt shards batch i d now p was → length now ≡ length old → HasListed p 1 was listed new → PromisedFirst shards batch i old now →
    ListsBare old (λ q. count_by (is_at shards q) (take i batch)) before listed → ListsBare old (λ q. count_by (is_at shards q) (take (i + 1) batch)) before new
listed_entry {shards} {batch} {i} {p} {d} {now} {was} old before listed new next equal has so_far lists = by has where
  others : (q : ℕ) → q ≢ p → count_by (is_at shards q) (take (i + 1) batch) ≡ count_by (is_at shards q) (take i batch)
  others q other = (let there : is_at shards q (get_or batch i d) ≡ false = grind (arith, nat_tests, other, next.at) in
      count_by_more_no (is_at shards q) batch i d next.within there)

  lane : was ≡ promising (lane_at old p) (count_by (is_at shards p) (take i batch))
  lane = next.read ∙ get_or_default now p was empty_lane next.inside ∙ so_far p

  by : HasListed p 1 was listed new → ListsBare old (λ q. count_by (is_at shards q) (take (i + 1) batch)) before new
  by (inl pushed) =
      subst (ListsBare old (λ q. count_by (is_at shards q) (take (i + 1) batch)) before) (sym pushed)
      (lists_place old (λ q. count_by (is_at shards q) (take i batch)) (λ q. count_by (is_at shards q) (take (i + 1) batch)) before listed p lists
      (omega (arith, next.inside, equal)) others)
  by (inr same) =
      subst (ListsBare old (λ q. count_by (is_at shards q) (take (i + 1) batch)) before) (sym same.0)
      (lists_known old (λ q. count_by (is_at shards q) (take i batch)) (λ q. count_by (is_at shards q) (take (i + 1) batch)) before listed p lists
      (λ bare. bare_promised (lane_at old p) (count_by (is_at shards p) (take i batch)) (subst (λ (l : Lane). is_bare l
      ≡ false) lane (not_none 1 (is_bare was) (omega arith) same.1)) bare) others)

-- the lane of the next group is what it was, and the group has so many words
pub record IsNextGroup (old : List Lane) (ends : List ℕ) (i more : ℕ) (was : Lane) : Type 0 where
  pub inside : i < length old
  pub lane : was ≡ lane_at old i
  pub size : more ≡ size_at ends i

-- a group is promised its places, and listed where its lane is bare
pub listed_group : {old : List Lane} {ends : List ℕ} {i more : ℕ} {was : Lane} (before listed new : List ℕ) → IsNextGroup old ends i more was →
    All (λ lane. lane.promised ≡ 0) old → HasListed i more was listed new →
    ListsBare old (λ q. if nat_lt q i then size_at ends q else 0) before listed → ListsBare old (λ q. if nat_lt q (i + 1) then size_at ends q else 0) before new
listed_group {old} {ends} {i} {more} {was} before listed new next settled has lists = by has where
  named : ℕ → ℕ → ℕ
  named n q = if nat_lt q n then size_at ends q else 0

  others : (q : ℕ) → q ≢ i → (if nat_lt q (i + 1) then size_at ends q else 0) ≡ (if nat_lt q i then size_at ends q else 0)
  others q other = (let same : nat_lt q (i + 1) ≡ nat_lt q i = grind (arith, nat_tests, other) in ap (λ (b : Bool). if b then size_at ends q else 0) same)

  here : more ≡ 0 → (if nat_lt i (i + 1) then size_at ends i else 0) ≡ (if nat_lt i i then size_at ends i else 0)
  here none =
      let now_too : nat_lt i (i + 1) ≡ true = grind (arith, nat_tests) in
      let not_yet : nat_lt i i ≡ false = grind (arith, nat_tests) in
      rw (now_too, not_yet) (sym next.size ∙ none)

  bare_now : (lane_at old i).words ≡ [] → is_bare was ≡ true
  bare_now bare =
      let none : (lane_at old i).promised ≡ 0 = settled i empty_lane next.inside in
      rw next.lane (rw (bare, none) refl)

  still : (more ≡ 0) ⊎ (is_bare was ≡ false) → ListsBare old (λ q. if nat_lt q (i + 1) then size_at ends q else 0) before listed
  still (inl none) =
      lists_same old (λ q. if nat_lt q i then size_at ends q else 0) (λ q. if nat_lt q (i + 1) then size_at ends q else 0) before listed lists
      (λ q. elim (cases_eq q i) as (λ _. (if nat_lt q (i + 1) then size_at ends q else 0) ≡ (if nat_lt q i then size_at ends q else 0)) [
        | inl at ↦ subst (λ (n : ℕ). (if nat_lt n (i + 1) then size_at ends n else 0) ≡ (if nat_lt n i then size_at ends n else 0)) (sym at) (here none)
        | inr other ↦ others q other
      ])
  still (inr other) =
      lists_known old (λ q. if nat_lt q i then size_at ends q else 0) (λ q. if nat_lt q (i + 1) then size_at ends q else 0) before listed i lists
      (λ bare. absurd (true≢false (sym (bare_now bare) ∙ other))) others

  by : HasListed i more was listed new → ListsBare old (λ q. if nat_lt q (i + 1) then size_at ends q else 0) before new
  by (inl pushed) =
      subst (ListsBare old (λ q. if nat_lt q (i + 1) then size_at ends q else 0) before) (sym pushed)
      (lists_place old (λ q. if nat_lt q i then size_at ends q else 0) (λ q. if nat_lt q (i + 1) then size_at ends q
      else 0) before listed i lists next.inside others)
  by (inr same) = subst (ListsBare old (λ q. if nat_lt q (i + 1) then size_at ends q else 0) before) (sym same.0) (still same.1)

-- what was listed before a batch still is
contains_kept : (n : ℕ) (xs : List ℕ) (p : ℕ) → Contains (take n xs) p → Contains xs p
contains_kept n xs p there = subst (λ (l : List ℕ). Contains l p) (take-append-drop n xs) (Contains-append_left (take n xs) (drop n xs) p there)

-- the places of lanes with words are listed after a batch
pub still_listed_after : (old new : List Lane) (named : ℕ → ℕ) (before listed : List ℕ) (parts : ℕ → List ℕ) → length new ≡ length old → AreListed before old →
    ListsBare old named before listed → ((p : ℕ) → length (parts p) ≡ named p) → ((p : ℕ) → (lane_at new p).words ≡ (lane_at old p).words ++ parts p) →
    AreListed listed new
still_listed_after old new named before listed parts equal are lists count grown = record {
  inside = subst (λ (n : ℕ). All (λ place. place < n) listed) (sym equal) (lists.inside are.inside);
  whole = λ p some. elim (cases_lt 0 (length (lane_at old p).words)) [
    | inl had ↦ contains_kept (length before) listed p (subst (λ (l : List ℕ). Contains l p) (sym lists.kept) (are.whole p had))
    | inr none ↦
        let longer = length-append (lane_at old p).words (parts p) in
        lists.added p (omega (arith, some, none, longer, ap length (grown p), count p)) (empty (lane_at old p).words none)
  ];
} where
  empty : (words : List ℕ) → length words ≤ 0 → words ≡ []
  empty [] none = refl
  empty (w ∷ words) none = absurd (omega (arith, none))
