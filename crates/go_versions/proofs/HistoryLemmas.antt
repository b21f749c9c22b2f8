-- The versions at or below a front are the first ones, and the last of them tells the count.
use Rattle.std.proofs.Common.{◌≡◌, ◌≢◌, ℕ, zero, suc, ◌+◌, ◌-◌, ◌<◌, ◌≤◌, List, [], ◌∷◌, ◌++◌, length, get_or, take, drop, Bool, true, false, cond, refl}
use Rattle.std.proofs.Common.{sym, ap, subst, ◌∙◌, arith, All, count_by, append-nil, drop-cons, length-drop, inl, inr, min, length-append, append_assoc}
use Rattle.std.proofs.lemmas.Bool.{le-leb, leb-true, leb-false, cases_lt}
use Rattle.std.proofs.lemmas.List.{get_or_append_left, get_or-append_right, take-append-drop, length-take-le, length-take, get_or-drop, get_or-take}
use Rattle.std.proofs.lemmas.List.{get_or_default, take_at, take_more}
use Rattle.std.proofs.lemmas.List.Elements.{filter-append, All-head, All-tail, All-cons, All-filter}
use Rattle.std.proofs.lemmas.List.Quantifiers.{all_pairs_push}
use Rattle.std.proofs.lemmas.List.Sums.{length-filter}
use Rattle.std.proofs.lemmas.Grind.{common_steps}
use Rattle.std.specs.List.{filter}
use Rattle.std.specs.List.Sorted.{IsPartitionPoint, IsNonDecreasingBy}
use Rattle.go_versions.specs.Version.{Version}
use Rattle.go_versions.specs.History.{reaches, last_count, count_at, IsBefore, IsRising}

-- the first i versions are at or below the front, and the others above it
abbrev pub PartsAt : ℕ → List Version → ℕ → Type 0
PartsAt front vs i = IsPartitionPoint (λ v. v.front ≤ front) (λ v. front < v.front) vs i

-- a version at or below the front reaches it
reaches-le : (front : ℕ) (v : Version) → v.front ≤ front → reaches front v ≡ true
reaches-le front v h = le-leb v.front front h

-- a version above the front does not reach it
reaches-lt : (front : ℕ) (v : Version) → front < v.front → reaches front v ≡ false
reaches-lt front v h = grind (arith, common_steps)

-- the versions that reach a front are the first ones
pub filter-reaches : (front : ℕ) (vs : List Version) (i : ℕ) → i ≤ length vs → PartsAt front vs i → filter (reaches front) vs ≡ take i vs
filter-reaches front [] zero short h = refl
filter-reaches front [] (suc i) short h = absurd (omega arith)
filter-reaches front (v ∷ vs) zero short h =
    let above : reaches front v ≡ false = reaches-lt front v (h.1 0 v (omega arith) (omega arith)) in
    let rest : filter (reaches front) vs ≡ take 0 vs = filter-reaches front vs 0 (omega arith) (
      (λ k d low high. absurd (omega arith)),
      λ k d low high. h.1 (suc k) d (omega arith) (omega arith),
    ) in
    rw above rest
filter-reaches front (v ∷ vs) (suc i) short h =
    let below : reaches front v ≡ true = reaches-le front v (h.0 0 v (omega arith) (omega arith)) in
    let rest : filter (reaches front) vs ≡ take i vs = filter-reaches front vs i (omega arith)
    ((λ k d low high. h.0 (suc k) d (omega arith) (omega arith)), λ k d low high. h.1 (suc k) d (omega arith) (omega arith)) in
    rw below (ap (λ l. v ∷ l) rest)

-- the last of the first versions tells their count
pub last_count-take : (vs : List Version) (i : ℕ) (d : Version) → i < length vs → last_count (take (suc i) vs) ≡ (get_or vs i d).count
last_count-take [] i d short = absurd (omega arith)
last_count-take (v ∷ vs) zero d short = refl
last_count-take (v ∷ []) (suc i) d short = absurd (omega arith)
last_count-take (v ∷ w ∷ vs) (suc i) d short = last_count-take (w ∷ vs) i d (omega arith)

-- of two lists the later tells the count, where it has a version
pub last_count-append : (xs : List Version) (y : Version) (ys : List Version) → last_count (xs ++ y ∷ ys) ≡ last_count (y ∷ ys)
last_count-append [] y ys = refl
last_count-append (x ∷ []) y ys = refl
last_count-append (x ∷ w ∷ xs) y ys = last_count-append (w ∷ xs) y ys

-- no version that reaches an earlier front is needed but the last
pub count_at-drop : (front f : ℕ) (vs : List Version) (n : ℕ) (d : Version) → n < length vs → (get_or vs n d).front ≤ f → count_at (drop n vs) f ≡ count_at vs f
count_at-drop front f vs n d short reached =
    let split : drop n vs ≡ get_or vs n d ∷ drop (suc n) vs = drop-cons vs n d short in
    let yes : reaches f (get_or vs n d) ≡ true = reaches-le f (get_or vs n d) reached in
    let later : filter (reaches f) (drop n vs) ≡ get_or vs n d ∷ filter (reaches f) (drop (suc n) vs) = ap (filter (reaches f)) split
    ∙ ap (λ b. cond b (get_or vs n d ∷ filter (reaches f) (drop (suc n) vs)) (filter (reaches f) (drop (suc n) vs))) yes in
    let whole : filter (reaches f) vs ≡ filter (reaches f) (take n vs) ++ filter (reaches f) (drop n vs) =
    ap (filter (reaches f)) (sym (take-append-drop n vs)) ∙ filter-append (reaches f) (take n vs) (drop n vs) in
    ap last_count later
    ∙ sym (last_count-append (filter (reaches f) (take n vs)) (get_or vs n d) (filter (reaches f) (drop (suc n) vs)))
    ∙ ap (λ l. last_count (filter (reaches f) (take n vs) ++ l)) (sym later)
    ∙ ap last_count (sym whole)

-- one version more, where it is wanted
last_count-push : (xs : List Version) (v : Version) (wanted : Bool) → last_count (xs ++ cond wanted (v ∷ []) []) ≡ cond wanted v.count (last_count xs)
last_count-push xs v true = last_count-append xs v []
last_count-push xs v false = ap last_count (append-nil xs)

-- a version that is noted tells the count from its front on
pub count_at-push : (vs : List Version) (v : Version) (f : ℕ) → count_at (vs ++ v ∷ []) f ≡ cond (reaches f v) v.count (count_at vs f)
count_at-push vs v f = ap last_count (filter-append (reaches f) vs (v ∷ [])) ∙ last_count-push (filter (reaches f) vs) v (reaches f v)

-- fronts that rise do not fall
pub is_non_decreasing : (vs : List Version) → IsRising vs → IsNonDecreasingBy (λ v. v.front) vs
is_non_decreasing vs h i j d le inside =
    elim (cases_lt i j) [
      | inl lt ↦ (let before : IsBefore (get_or vs i d) (get_or vs j d) = h i j d lt inside in omega (arith, before.front))
      | inr ge ↦
          (let same : i ≡ j = omega arith in rw same (omega arith))
    ]

-- a later version keeps the versions rising
pub IsRising-push : (vs : List Version) (v : Version) → IsRising vs → All (λ w. w.front < v.front) vs → All (λ w. w.count ≤ v.count) vs →
    IsRising (vs ++ v ∷ [])
IsRising-push vs v h later more = all_pairs_push IsBefore vs v h (λ k d inside. record { front = later k d inside; count = more k d inside })

-- what a test that is true of the first part and false of the rest says of the fronts
pub PartsAt-from_tests : (front : ℕ) (vs : List Version) (i : ℕ) → IsPartitionPoint (λ v. reaches front v ≡ true) (λ v. reaches front v ≡ false) vs i →
    PartsAt front vs i
PartsAt-from_tests front vs i h =
    ((λ k d low high. leb-true (get_or vs k d).front front (h.0 k d low high)), λ k d low high. leb-false (get_or vs k d).front front (h.1 k d low high))

-- without its first versions a list still rises
pub IsRising-drop : (vs : List Version) (n : ℕ) → IsRising vs → IsRising (drop n vs)
IsRising-drop vs n h i j d lt inside =
    let there : n + j < length vs = omega (arith, length-drop n vs) in
    rw (get_or-drop n vs i d, get_or-drop n vs j d) (h (n + i) (n + j) d (omega arith) there)

-- without some of the first versions, fewer are at or below the front
pub PartsAt-drop : (front : ℕ) (vs : List Version) (i n : ℕ) → n ≤ i → PartsAt front vs i → PartsAt front (drop n vs) (i - n)
PartsAt-drop front vs i n le h = (
  (λ k d low high. rw get_or-drop (h.0 (n + k) d (omega arith) (omega arith))),
  λ k d low high. rw get_or-drop (h.1 (n + k) d (omega arith) (omega (arith, length-drop n vs))),
)

-- as many versions reach the front as stand in the first part
pub count_by-reaches : (front : ℕ) (vs : List Version) (i : ℕ) → i ≤ length vs → PartsAt front vs i → count_by (reaches front) vs ≡ i
count_by-reaches front vs i short h =
    sym (length-filter (reaches front) vs) ∙ ap length (filter-reaches front vs i short h) ∙ length-take-le i vs short

-- what is left after the first versions are given up, but for the last that reaches the front
pub count_by-kept : (front : ℕ) (vs : List Version) (i : ℕ) → i ≤ length vs → PartsAt front vs i → count_by (reaches front) (drop (i - 1) vs) ≤ 1
count_by-kept front vs i short h =
    let few : i - (i - 1) ≤ 1 = omega arith in
    let counted : count_by (reaches front) (drop (i - 1) vs) ≡ i - (i - 1) =
    count_by-reaches front (drop (i - 1) vs) (i - (i - 1)) (omega (arith, length-drop (i - 1) vs)) (PartsAt-drop front vs i (i - 1) (omega arith) h) in
    omega arith

-- where no version reaches the front, the count is 0
pub count_at-none : (front : ℕ) (vs : List Version) (i : ℕ) → i ≤ length vs → PartsAt front vs i → i ≡ 0 → 0 ≡ count_at vs front
count_at-none front vs i short h none =
    sym (ap last_count (filter-reaches front vs i short h) ∙ ap (λ k. last_count (take k vs)) none)

-- the last of the versions that reach the front tells the count
pub count_at-last : (front : ℕ) (vs : List Version) (i : ℕ) (d : Version) → i ≤ length vs → PartsAt front vs i → i ≢ 0 →
    (get_or vs (i - 1) d).count ≡ count_at vs front
count_at-last front vs zero d short h some = absurd (some refl)
count_at-last front vs (suc i) d short h some =
    let before : suc i - 1 ≡ i = omega arith in
    ap (λ k. (get_or vs k d).count) before
    ∙ sym (ap last_count (filter-reaches front vs (suc i) short h) ∙ last_count-take vs i d (omega arith))

-- from the front on, each count is told by what is left once the versions before the last that reaches it are given up
pub count_at-kept : (front f : ℕ) (vs : List Version) (i : ℕ) → i ≤ length vs → PartsAt front vs i → front ≤ f → count_at (drop (i - 1) vs) f ≡ count_at vs f
count_at-kept front f vs zero short h le = refl
count_at-kept front f [] (suc i) short h le = absurd (omega arith)
count_at-kept front f (v ∷ vs) (suc i) short h le =
    let before : suc i - 1 ≡ i = omega arith in
    let last : (get_or (v ∷ vs) i v).front ≤ front = h.0 i v (omega arith) (omega arith) in
    ap (λ k. count_at (drop k (v ∷ vs)) f) before ∙ count_at-drop front f (v ∷ vs) i v (omega arith) (omega arith)

-- a list whose front is turned to its end and cut off there has lost its front
pub turned_and_cut : (vs turned left : List Version) (n kept : ℕ) → n ≤ length vs → turned ≡ drop n vs ++ take n vs → left ≡ take kept turned →
    kept ≡ length vs - n → left ≡ drop n vs
turned_and_cut vs turned left n kept short one two counted =
    two ∙ ap (take kept) one ∙ take_at (drop n vs) (take n vs) kept (omega (arith, length-drop n vs))

-- what retiring a front leaves: the versions from the last that reaches it on, which tell the same counts from there on
pub record HasRetired (front : ℕ) (vs left : List Version) : Type 0 where
  pub kept : left ≡ drop (count_by (reaches front) vs - 1) vs
  pub few : count_by (reaches front) left ≤ 1
  pub at : (f : ℕ) → front ≤ f → count_at left f ≡ count_at vs f

-- giving up all versions before the last that reaches the front retires it
pub has_retired : (front : ℕ) (slice vs left : List Version) (i : ℕ) → slice ≡ vs → i ≤ length slice → PartsAt front slice i → left ≡ drop (i - 1) vs →
    HasRetired front vs left
has_retired front slice vs left i same bound parts left_is =
    let P : List Version → Type 0 = λ l. (i ≤ length l) × PartsAt front l i in
    let found : P vs = subst P same (bound, parts) in
    record {
      kept = left_is ∙ ap (λ k. drop (k - 1) vs) (sym (count_by-reaches front vs i found.0 found.1));
      few = rw left_is (count_by-kept front vs i found.0 found.1);
      at = λ f le. ap (λ l. count_at l f) left_is ∙ count_at-kept front f vs i found.0 found.1 le;
    }

-- the first part of a rising list rises
pub IsRising-left : (xs ys : List Version) → IsRising (xs ++ ys) → IsRising xs
IsRising-left xs ys h = λ i j d lt inside.
    let long : length (xs ++ ys) ≡ length xs + length ys = length-append xs ys in
    subst (λ (v : Version). IsBefore v (get_or xs j d)) (get_or_append_left xs ys d i (omega arith))
    (subst (λ (v : Version). IsBefore (get_or (xs ++ ys) i d) v) (get_or_append_left xs ys d j inside) (h i j d lt (omega (arith, long))))

-- and so does what follows it
pub IsRising-right : (xs ys : List Version) → IsRising (xs ++ ys) → IsRising ys
IsRising-right xs ys h = λ i j d lt inside.
    let long : length (xs ++ ys) ≡ length xs + length ys = length-append xs ys in
    let at : (k : ℕ) → get_or (xs ++ ys) (length xs + k) d ≡ get_or ys k d =
    λ k. get_or-append_right xs ys (length xs) (length xs + k) d refl (omega arith)
    ∙ ap (λ n. get_or ys n d) (let n : length xs + k - length xs ≡ k = omega arith in n) in
    subst (λ (v : Version). IsBefore v (get_or ys j d)) (at i) (subst (λ (v : Version). IsBefore (get_or (xs ++ ys) (length xs + i) d) v) (at j)
    (h (length xs + i) (length xs + j) d (omega arith) (omega (arith, long))))

-- where some of what follows reaches a front, all of the first part does
pub PartsAt-both : (front : ℕ) (xs ys : List Version) (j : ℕ) → IsRising (xs ++ ys) → j ≤ length ys → j ≢ 0 → PartsAt front ys j →
    PartsAt front (xs ++ ys) (length xs + j)
PartsAt-both front xs ys j rises short some h =
    let long : length (xs ++ ys) ≡ length xs + length ys = length-append xs ys in
    let later : (k : ℕ) (d : Version) → length xs ≤ k → get_or (xs ++ ys) k d ≡ get_or ys (k - length xs) d =
    λ k d le. get_or-append_right xs ys (length xs) k d refl le in (
      (λ k d low high. elim (cases_lt k (length xs)) [
        | inl early ↦
            let before : IsBefore (get_or (xs ++ ys) k d) (get_or (xs ++ ys) (length xs) d) = rises k (length xs) d early (omega (arith, long, some, short)) in
            let first : (get_or ys (length xs - length xs) d).front ≤ front = h.0 (length xs - length xs) d (omega arith) (omega (arith, some)) in
            let same : (get_or (xs ++ ys) (length xs) d).front ≡ (get_or ys (length xs - length xs) d).front =
            ap (λ v. v.front) (later (length xs) d (omega arith)) in
            omega (arith, before.front, first, same)
        | inr behind ↦
            let here : (get_or ys (k - length xs) d).front ≤ front = h.0 (k - length xs) d (omega arith) (omega (arith, behind, high)) in
            let same : (get_or (xs ++ ys) k d).front ≡ (get_or ys (k - length xs) d).front = ap (λ v. v.front) (later k d behind) in
            omega (arith, here, same)
      ]),
      λ k d low high.
          let here : front < (get_or ys (k - length xs) d).front = h.1 (k - length xs) d (omega arith) (omega (arith, long)) in
          let same : (get_or (xs ++ ys) k d).front ≡ (get_or ys (k - length xs) d).front = ap (λ v. v.front) (later k d (omega arith)) in
          omega (arith, here, same),
    )

-- a version behind the first ones, where no later ones are, is the last
pub pushed_early : (early noted now new : List Version) (v : Version) → early ++ noted ≡ now → length noted ≡ 0 → new ≡ early ++ v ∷ [] →
    new ++ noted ≡ now ++ v ∷ []
pushed_early early [] now new v is none more = append-nil new ∙ more ∙ ap (λ l. l ++ v ∷ []) (sym (append-nil early) ∙ is)
pushed_early early (x ∷ xs) now new v is none more = absurd (omega arith)

-- and so is one behind the later ones
pub pushed_later : (early noted now new : List Version) (v : Version) → early ++ noted ≡ now → new ≡ noted ++ v ∷ [] → early ++ new ≡ now ++ v ∷ []
pushed_later early noted now new v is more = ap (λ l. early ++ l) more ∙ sym (append_assoc early noted (v ∷ [])) ∙ ap (λ l. l ++ v ∷ []) is

-- a list with a later version at its end rises
pub rises_pushed : (now all : List Version) (v : Version) (front count : ℕ) → v ≡ record { front = front; count = count } → all ≡ now ++ v ∷ [] →
    IsRising now → All (λ w. w.front < front) now → All (λ w. w.count ≤ count) now → IsRising all
rises_pushed now all v front count is longer rises later more =
    subst IsRising (sym (longer ∙ ap (λ w. now ++ w ∷ []) is)) (IsRising-push now (record { front = front; count = count }) rises later more)

-- and tells its count from its front on
pub count_at-pushed : (now all : List Version) (v : Version) (front count f : ℕ) → v ≡ record { front = front; count = count } → all ≡ now ++ v ∷ [] →
    count_at all f ≡ cond (reaches f (record { front = front; count = count })) count (count_at now f)
count_at-pushed now all v front count f is longer =
    ap (λ l. count_at l f) (longer ∙ ap (λ w. now ++ w ∷ []) is) ∙ count_at-push now (record { front = front; count = count }) f

-- the first versions of a rising list rise
pub IsRising-take : (vs : List Version) (n : ℕ) → IsRising vs → IsRising (take n vs)
IsRising-take vs n h = IsRising-left (take n vs) (drop n vs) (subst IsRising (sym (take-append-drop n vs)) h)

-- the whole without its last version is the first part, and the later one without its last
past_first : (xs ys : List Version) → 0 < length ys → xs ++ take (length ys - 1) ys ≡ take (length (xs ++ ys) - 1) (xs ++ ys)
past_first [] ys some = refl
past_first (x ∷ xs) ys some =
    let step : suc (length (xs ++ ys)) - 1 ≡ suc (length (xs ++ ys) - 1) = omega (arith, length-append xs ys, some) in
    rw step (ap (λ l. x ∷ l) (past_first xs ys some))

pub forgotten_later : (early noted left now : List Version) (n : ℕ) → early ++ noted ≡ now → 0 < length noted → n ≡ length noted - 1 →
    left ≡ take n noted → early ++ left ≡ take (length now - 1) now
forgotten_later early noted left now n is some counted cut =
    ap (λ l. early ++ l) (cut ∙ ap (λ k. take k noted) counted) ∙ past_first early noted some ∙ ap (λ l. take (length l - 1) l) is

-- two parts without their first versions are the whole without them
drop-both : (xs ys : List Version) (n m : ℕ) → m ≡ min n (length xs) → drop m xs ++ drop (n - m) ys ≡ drop n (xs ++ ys)
drop-both [] ys n m is = let none : m ≡ 0 = omega arith in let all : n - 0 ≡ n = omega arith in rw (none, all) refl
drop-both (x ∷ xs) ys zero m is = let none : m ≡ 0 = omega arith in rw none refl
drop-both (x ∷ xs) ys (suc n) zero is = absurd (omega arith)
drop-both (x ∷ xs) ys (suc n) (suc m) is =
    let left : suc n - suc m ≡ n - m = omega arith in
    rw left (drop-both xs ys n m (omega arith))

pub dropped_both : (xs ys xs' ys' now : List Version) (n m : ℕ) → xs ++ ys ≡ now → m ≡ min n (length xs) → xs' ≡ drop m xs → ys' ≡ drop (n - m) ys →
    xs' ++ ys' ≡ drop n now
dropped_both xs ys xs' ys' now n m is counted one two = rw (one, two) (drop-both xs ys n m counted ∙ ap (drop n) is)

-- the versions of a rising list between two places come before the one at the second
pub between_before : (vs : List Version) (from k : ℕ) (d : Version) → IsRising vs → k < length vs →
    All (λ v. IsBefore v (get_or vs k d)) (take (k - from) (drop from vs))
between_before vs from k d rising within = λ i e inside.
    let first : i < k - from = omega (arith, inside, length-take (k - from) (drop from vs)) in
    let at : get_or (take (k - from) (drop from vs)) i e ≡ get_or vs (from + i) e = get_or-take (k - from) (drop from vs) i e first ∙ get_or-drop from vs i e in
    let same : get_or vs (from + i) e ≡ get_or vs (from + i) d = get_or_default vs (from + i) e d (omega (arith, first, within)) in
    subst (λ (v : Version). IsBefore v (get_or vs k d)) (sym (at ∙ same)) (rising (from + i) k d (omega (arith, first)) within)

-- one version more of those behind a place
pub one_more_kept : (vs : List Version) (from k : ℕ) (d v : Version) → from ≤ k → k < length vs → v ≡ get_or vs k d →
    take (k - from) (drop from vs) ++ v ∷ [] ≡ take (k + 1 - from) (drop from vs)
one_more_kept vs from k d v begun within is =
    let inside : k - from < length (drop from vs) = omega (arith, length-drop from vs, begun, within) in
    let at : get_or (drop from vs) (k - from) d ≡ v = get_or-drop from vs (k - from) d ∙ ap (λ (n : ℕ). get_or vs n d) (omega (arith, begun)) ∙ sym is in
    let more : k + 1 - from ≡ k - from + 1 = omega (arith, begun) in
    sym (ap (λ (n : ℕ). take n (drop from vs)) more ∙ take_more (drop from vs) (k - from) d inside
    ∙ ap (λ (w : Version). take (k - from) (drop from vs) ++ w ∷ []) at)

-- the count of the last version, and a number where there is none
latest : ℕ → List Version → ℕ
latest n [] = n
latest n (v ∷ vs) = latest v.count vs

latest_first : (v : Version) (vs : List Version) → last_count (v ∷ vs) ≡ latest v.count vs
unfolding latest
latest_first v [] = refl
latest_first v (w ∷ vs) = latest_first w vs

latest_or_none : (vs : List Version) → last_count vs ≡ latest 0 vs
unfolding latest
latest_or_none [] = refl
latest_or_none (v ∷ vs) = latest_first v vs

-- it is no less than what none of them is less than
latest_least : (m n : ℕ) (vs : List Version) → m ≤ n → All (λ v. m ≤ v.count) vs → m ≤ latest n vs
unfolding latest
latest_least m n [] le all = le
latest_least m n (v ∷ vs) le all = latest_least m v.count vs (All-head (λ w. m ≤ w.count) v vs all) (All-tail (λ w. m ≤ w.count) v vs all)

-- versions that stand above a front don't reach it
none_reach : (f : ℕ) (vs : List Version) → All (λ v. f < v.front) vs → filter (reaches f) vs ≡ []
none_reach f [] above = refl
none_reach f (v ∷ vs) above = rw (reaches-lt f v (All-head (λ w. f < w.front) v vs above)) (none_reach f vs (All-tail (λ w. f < w.front) v vs above))

-- at a later front the count is no less
latest_rises : (n f g : ℕ) (vs : List Version) → IsRising vs → f ≤ g → All (λ v. n ≤ v.count) vs →
    latest n (filter (reaches f) vs) ≤ latest n (filter (reaches g) vs)
unfolding latest
latest_rises n f g [] rising later least = omega arith
latest_rises n f g (v ∷ vs) rising later least = elim (cases_lt f v.front) [
  | inl above ↦
      let none : filter (reaches f) (v ∷ vs) ≡ [] = none_reach f (v ∷ vs) (All-cons (λ w. f < w.front) v vs above (λ k d inside. past k d inside above)) in
      subst (λ (l : List Version). latest n l ≤ latest n (filter (reaches g) (v ∷ vs))) (sym none)
      (latest_least n n (filter (reaches g) (v ∷ vs)) (omega arith) (All-filter (reaches g) (λ w. n ≤ w.count) (v ∷ vs) least))
  | inr reached ↦
      let first : reaches f v ≡ true = reaches-le f v (omega arith) in
      let second : reaches g v ≡ true = reaches-le g v (omega arith) in
      let after : All (IsBefore v) vs = λ k d inside. rising 0 (suc k) d (omega arith) (omega arith) in
      let rest : IsRising vs = λ i j d lt inside. rising (suc i) (suc j) d (omega arith) (omega arith) in
      rw (first, second) (latest_rises v.count f g vs rest later (λ k d inside. (after k d inside).count))
] where
  past : (k : ℕ) (d : Version) → k < length vs → f < v.front → f < (get_or vs k d).front
  past k d inside above = (let before = rising 0 (suc k) d (omega arith) (omega arith) in omega (arith, before.front, above))

-- so how many there are never falls with the front
pub count_at-rises : (vs : List Version) (f g : ℕ) → IsRising vs → f ≤ g → count_at vs f ≤ count_at vs g
count_at-rises vs f g rising later =
    rw (latest_or_none (filter (reaches f) vs), latest_or_none (filter (reaches g) vs)) (latest_rises 0 f g vs rising later (λ k d inside. omega arith))
