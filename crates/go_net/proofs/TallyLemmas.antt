-- Lemmas on counts of targets, and on a list less its counted copies.
use Rattle.std.proofs.Common.{◌≡◌, ℕ, ◌<◌, ◌≤◌, ◌≢◌, ◌+◌, ◌-◌, subst, replicate, take, drop, append_assoc, add-one, drop-cons, length-append, true, false}
use Rattle.std.proofs.Common.{List, [], ◌∷◌, ◌++◌, length, get_or, refl, arith, set, zero, suc, sym, ◌∙◌, ap}
use Rattle.std.proofs.lemmas.Bool.Decides.{nat_tests}
use Rattle.std.proofs.lemmas.List.Sums.{sum_by-cons, sum_by_push, count_by-le-length}
use Rattle.std.proofs.lemmas.List.{take_more_set, drop-set-lt, length-take}
use Rattle.std.specs.Prelude.{◌==◌, if◌then◌else◌, Contains}
use Rattle.go_word.specs.Neighbours.{without_first, copies}
use Rattle.go_word.proofs.NeighbourLaws.{copies-without_first, without_first-absent}
use Rattle.go_word.specs.Word.{decode}
use Rattle.go_net.specs.Tally.{count_at, one_less, one_more, without_counted, additions, addition_in, StandsAt, IsTally}

-- the count of copies goes element by element
copies-cons : (x y : ℕ) (ys : List ℕ) → copies x (y ∷ ys) ≡ (if y == x then 1 else 0) + copies x ys
copies-cons x y ys = sum_by-cons (λ v. if v == x then 1 else 0) y ys

-- one more at the end of a list is one more copy of it
pub copies-push : (x y : ℕ) (ys : List ℕ) → copies x (ys ++ y ∷ []) ≡ copies x ys + (if y == x then 1 else 0)
copies-push x y ys = sum_by_push (λ v. if v == x then 1 else 0) ys y

-- what is left goes by the counts alone, however they are given
pub without_counted-same : (f g : ℕ → ℕ) (xs : List ℕ) → ((x : ℕ) → f x ≡ g x) → without_counted f xs ≡ without_counted g xs
without_counted-same f g [] same = refl
without_counted-same f g (x ∷ xs) same =
    let here : f x ≡ g x = same x in
    let kept : without_counted f xs ≡ without_counted g xs = without_counted-same f g xs same in
    let less : without_counted (one_less f x) xs ≡ without_counted (one_less g x) xs =
    without_counted-same (one_less f x) (one_less g x) xs (λ y. rw (same y) refl) in
    grind (arith, nat_tests)

-- one more and one less of two vertices can change places
one_less-one_more : (f : ℕ → ℕ) (d x y : ℕ) → x ≢ d → one_less (one_more f d) x y ≡ one_more (one_less f x) d y
one_less-one_more f d x y other = grind (arith, nat_tests)

-- one more and then one less of a vertex is what it was
one_less-one_more_same : (f : ℕ → ℕ) (d y : ℕ) → one_less (one_more f d) d y ≡ f y
one_less-one_more_same f d y = grind (arith, nat_tests)

-- and so is one less and then one more, where there was one
one_more-one_less_same : (f : ℕ → ℕ) (d y : ℕ) → 0 < f d → one_more (one_less f d) d y ≡ f y
one_more-one_less_same f d y some = grind (arith, nat_tests)

-- one more counted copy of d is the earliest one that is left
pub without_counted-one_more : (f : ℕ → ℕ) (d : ℕ) (xs : List ℕ) → without_counted (one_more f d) xs ≡ without_first d (without_counted f xs)
without_counted-one_more f d [] = refl
without_counted-one_more f d (x ∷ xs) =
    let kept : without_counted (one_more f d) xs ≡ without_first d (without_counted f xs) = without_counted-one_more f d xs in
    let less : without_counted (one_more (one_less f x) d) xs ≡ without_first d (without_counted (one_less f x) xs) =
    without_counted-one_more (one_less f x) d xs in
    let other : x ≢ d → without_counted (one_less (one_more f d) x) xs ≡ without_counted (one_more (one_less f x) d) xs =
    λ ne. without_counted-same _ _ xs (λ y. one_less-one_more f d x y ne) in
    let same : without_counted (one_less (one_more f d) d) xs ≡ without_counted f xs = without_counted-same _ _ xs (λ y. one_less-one_more_same f d y) in
    let back : 0 < f d → without_counted (one_more (one_less f d) d) xs ≡ without_counted f xs =
    λ some. without_counted-same _ _ xs (λ y. one_more-one_less_same f d y some) in
    grind (arith, nat_tests)

-- a copy that comes last stays, where no more are counted than come before it
pub without_counted-push : (f : ℕ → ℕ) (d : ℕ) (xs : List ℕ) → f d ≤ copies d xs → without_counted f (xs ++ d ∷ []) ≡ without_counted f xs ++ d ∷ []
without_counted-push f d [] few = grind (arith, nat_tests)
without_counted-push f d (x ∷ xs) few =
    let count : copies d (x ∷ xs) ≡ (if x == d then 1 else 0) + copies d xs = copies-cons d x xs in
    let kept : f d ≤ copies d xs → without_counted f (xs ++ d ∷ []) ≡ without_counted f xs ++ d ∷ [] = λ h. without_counted-push f d xs h in
    let less : one_less f x d ≤ copies d xs → without_counted (one_less f x) (xs ++ d ∷ []) ≡ without_counted (one_less f x) xs ++ d ∷ [] =
    λ h. without_counted-push (one_less f x) d xs h in
    grind (arith, nat_tests)

-- a tally goes on with a copy that comes last
pub IsTally-add : (targets before after removed added list : List ℕ) (d : ℕ)
    → (Contains targets d → count_at targets after d ≡ count_at targets before d + 1)
    → count_at targets after d ≤ count_at targets before d + 1
    → ((x : ℕ) → x ≢ d → count_at targets after x ≡ count_at targets before x)
    → IsTally targets before removed added list → IsTally targets after removed (added ++ d ∷ []) (list ++ d ∷ [])
IsTally-add targets before after removed added list d counted bound others tally = record {
  taken =
      let few : count_at targets removed d ≤ copies d added = let b = tally.bound d in omega arith in
      without_counted-push (count_at targets removed) d added few ∙ ap (λ l. l ++ d ∷ []) tally.taken;
  standing = λ x target.
      let same = tally.standing x target in
      let more = copies-push x d list in
      let other = others x in
      let here : x ≡ d → count_at targets after x ≡ count_at targets before x + 1 = λ e. rw e (counted (subst (λ (v : ℕ). Contains targets v) e target)) in
      grind (arith, nat_tests);
  bound = λ x.
      let same = tally.bound x in
      let more = copies-push x d added in
      let other = others x in
      let here : x ≡ d → count_at targets after x ≤ count_at targets before x + 1 = λ e. rw e bound in
      grind (arith, nat_tests);
}

-- a tally goes on with a deletion that finds a copy
pub IsTally-delete : (targets before after removed taken added list : List ℕ) (d : ℕ)
    → 0 < count_at targets before d
    → ((x : ℕ) → count_at targets after x ≡ one_less (count_at targets before) d x)
    → count_at targets taken d ≡ count_at targets removed d + 1
    → ((x : ℕ) → x ≢ d → count_at targets taken x ≡ count_at targets removed x)
    → IsTally targets before removed added list → IsTally targets after taken added (without_first d list)
IsTally-delete targets before after removed taken added list d some less counted others tally =
    let more : (x : ℕ) → count_at targets taken x ≡ one_more (count_at targets removed) d x = λ x.
    let other = others x in
    let here : x ≡ d → count_at targets taken x ≡ count_at targets removed x + 1 = λ e. rw e counted in
    grind (arith, nat_tests) in
    record {
      taken = without_counted-same _ _ added more ∙ without_counted-one_more (count_at targets removed) d added ∙ ap (without_first d) tally.taken;
      standing = λ x target.
          let same = tally.standing x target in
          let fewer = copies-without_first x d list in
          let now = less x in
          grind (arith, nat_tests);
      bound = λ x.
          let same = tally.bound x in
          let now = less x in
          let next = more x in
          let here : x ≡ d → 0 < count_at targets before x = λ e. rw e some in
          grind (arith, nat_tests);
    }

-- and with one that finds none
pub IsTally-absent : (targets before after removed added list : List ℕ) (d : ℕ)
    → count_at targets before d ≡ 0
    → ((x : ℕ) → count_at targets after x ≡ one_less (count_at targets before) d x)
    → Contains targets d
    → IsTally targets before removed added list → IsTally targets after removed added (without_first d list)
IsTally-absent targets before after removed added list d none less target tally =
    let nothing : copies d list ≡ 0 = sym (tally.standing d target) ∙ none in
    let left : without_first d list ≡ list = without_first-absent d list nothing in
    let same : (x : ℕ) → count_at targets after x ≡ count_at targets before x = λ x.
    let now = less x in
    let here : x ≡ d → count_at targets before x ≡ 0 = λ e. rw e none in
    grind (arith, nat_tests) in
    record {
      taken = tally.taken ∙ sym left;
      standing = λ x at. same x ∙ tally.standing x at ∙ sym (ap (copies x) left);
      bound = λ x. let s = same x in let b = tally.bound x in omega arith;
    }

-- a place among the targets behind the first is one among the rest
StandsAt-tail : (t : ℕ) (targets : List ℕ) (d place : ℕ) → StandsAt (t ∷ targets) d (suc place) → StandsAt targets d place
StandsAt-tail t targets d place stands = record {
  within = let w = stands.within in omega arith;
  here = stands.here;
  first = λ k h. stands.first (suc k) (omega arith);
}

-- what isn't among some targets is not the first, nor among the rest
Contains-cons : (t : ℕ) (targets : List ℕ) (d : ℕ) → Contains targets d → Contains (t ∷ targets) d
Contains-cons t targets d among = (suc among.0, (let w = among.1 in omega arith), among.2)

-- where d isn't a target, its count is 0
pub count_at-absent : (targets counts : List ℕ) (d : ℕ) → (Contains targets d → ⊥) → count_at targets counts d ≡ 0
count_at-absent [] counts d absent = refl
count_at-absent (t ∷ targets) [] d absent = refl
count_at-absent (t ∷ targets) (c ∷ counts) d absent =
    let other : t ≢ d = λ e. absent (0, omega arith, e) in
    let rest : count_at targets counts d ≡ 0 = count_at-absent targets counts d (λ among. absent (Contains-cons t targets d among)) in
    grind (arith, nat_tests)

-- where d is a target, its count stands at its place
pub count_at-place : (targets counts : List ℕ) (d place : ℕ) → StandsAt targets d place → length counts ≡ length targets →
    count_at targets counts d ≡ get_or counts place 0
count_at-place [] counts d place stands paired = absurd (let w = stands.within in omega arith)
count_at-place (t ∷ targets) [] d place stands paired = absurd (omega arith)
count_at-place (t ∷ targets) (c ∷ counts) d zero stands paired = let here : t ≡ d = stands.here in grind (arith, nat_tests)
count_at-place (t ∷ targets) (c ∷ counts) d (suc place) stands paired =
    let below : t < d = stands.first 0 (omega arith) in
    let rest : count_at targets counts d ≡ get_or counts place 0 = count_at-place targets counts d place (StandsAt-tail t targets d place stands)
    (omega arith) in
    grind (arith, nat_tests)

-- a count that is written at the place of d is that of d, and the others stay
pub count_at-set : (targets counts : List ℕ) (d place v x : ℕ) → StandsAt targets d place → length counts ≡ length targets →
    count_at targets (set counts place v) x ≡ (if x == d then v else count_at targets counts x)
count_at-set [] counts d place v x stands paired = absurd (let w = stands.within in omega arith)
count_at-set (t ∷ targets) [] d place v x stands paired = absurd (omega arith)
count_at-set (t ∷ targets) (c ∷ counts) d zero v x stands paired = let here : t ≡ d = stands.here in grind (arith, nat_tests)
count_at-set (t ∷ targets) (c ∷ counts) d (suc place) v x stands paired =
    let below : t < d = stands.first 0 (omega arith) in
    let rest : count_at targets (set counts place v) x ≡ (if x == d then v else count_at targets counts x) =
    count_at-set targets counts d place v x (StandsAt-tail t targets d place stands) (omega arith) in
    grind (arith, nat_tests)

-- fresh counts are 0
count_at-zero : (targets : List ℕ) (n x : ℕ) → count_at targets (replicate n 0) x ≡ 0
count_at-zero [] n x = refl
count_at-zero (t ∷ targets) zero x = refl
count_at-zero (t ∷ targets) (suc n) x = let rest : count_at targets (replicate n 0) x ≡ 0 = count_at-zero targets n x in grind (arith, nat_tests)

-- with no copy taken out a list is what it was
pub IsTally-none : (targets : List ℕ) (n m : ℕ) → IsTally targets (replicate n 0) (replicate m 0) [] []
IsTally-none targets n m = record {
  taken = refl;
  standing = λ x target. count_at-zero targets n x;
  bound = λ x. let p = count_at-zero targets n x in let r = count_at-zero targets m x in omega arith;
}

-- one less, written at the place of d, is one less of d
pub count_down_at : (targets counts : List ℕ) (d place x : ℕ) → StandsAt targets d place → length counts ≡ length targets →
    count_at targets (set counts place (get_or counts place 0 - 1)) x ≡ one_less (count_at targets counts) d x
count_down_at targets counts d place x stands paired =
    let at = count_at-place targets counts d place stands paired in
    let written = count_at-set targets counts d place (get_or counts place 0 - 1) x stands paired in
    let here : x ≡ d → count_at targets counts x ≡ count_at targets counts d = λ e. rw e refl in
    grind (arith, nat_tests, at, written, here)

-- where there is none, one less is the same
pub count_down_none : (targets counts : List ℕ) (d x : ℕ) → count_at targets counts d ≡ 0 → count_at targets counts x ≡ one_less (count_at targets counts) d x
count_down_none targets counts d x none =
    let here : x ≡ d → count_at targets counts x ≡ 0 = λ e. rw e none in
    grind (arith, nat_tests, here)

-- a word adds one neighbour at most
length-addition_in : (word : ℕ) → length (addition_in word) ≤ 1
length-addition_in word = elim ((decode word).del) as (λ b. length (if b then [] else (decode word).dst ∷ []) ≤ 1) [ true ↦ omega arith | false ↦ omega arith ]

-- what words add, word by word
additions-cons : (word : ℕ) (words : List ℕ) → additions (word ∷ words) ≡ addition_in word ++ additions words
additions-cons word words = refl

-- the words so far add no more than one neighbour each
length-additions : (words : List ℕ) → length (additions words) ≤ length words
length-additions [] = omega arith
length-additions (word ∷ words) =
    let rest : length (additions words) ≤ length words = length-additions words in
    let cut : additions (word ∷ words) ≡ addition_in word ++ additions words = additions-cons word words in
    let one : length (addition_in word) ≤ 1 = length-addition_in word in
    rw (cut, length-append) (omega arith)

-- so no count passes the number of all that was there and the words
pub IsTally-room : (targets present removed base words list : List ℕ) (x i : ℕ) → IsTally targets present removed (base ++ additions (take i words)) list →
    count_at targets present x + count_at targets removed x ≤ length base + i
IsTally-room targets present removed base words list x i tally =
    let bound = tally.bound x in
    let all : copies x (base ++ additions (take i words)) ≤ length (base ++ additions (take i words)) =
    count_by-le-length (λ v. v == x) (base ++ additions (take i words)) in
    let sum : length (base ++ additions (take i words)) ≡ length base + length (additions (take i words)) = length-append base (additions (take i words)) in
    let few : length (additions (take i words)) ≤ length (take i words) = length-additions (take i words) in
    let cut : length (take i words) ≤ i = simp length-take (omega arith) in
    omega arith

-- an uncounted copy at the head stays
without_counted-none : (f : ℕ → ℕ) (d : ℕ) (xs : List ℕ) → f d ≡ 0 → without_counted f (d ∷ xs) ≡ d ∷ without_counted f xs
without_counted-none f d xs none = grind (arith, nat_tests)

-- a counted one goes
without_counted-some : (f : ℕ → ℕ) (d : ℕ) (xs : List ℕ) → 0 < f d → without_counted f (d ∷ xs) ≡ without_counted (one_less f d) xs
without_counted-some f d xs some = grind (arith, nat_tests)

-- a turn of the loop that keeps a copy
pub kept_on : (before after : ℕ → ℕ) (list left : List ℕ) (kept i : ℕ) → kept ≤ i → i < length list
    → before (get_or list i 0) ≡ 0
    → ((x : ℕ) → after x ≡ one_less before (get_or list i 0) x)
    → take kept list ++ without_counted before (drop i list) ≡ left
    → take (kept + 1) (set list kept (get_or list i 0)) ++ without_counted after (drop (i + 1) (set list kept (get_or list i 0))) ≡ left
kept_on before after list left kept i behind within none less so_far =
    let d = get_or list i 0 in
    let same : (x : ℕ) → after x ≡ before x = λ x.
    let now = less x in
    let here : x ≡ d → before x ≡ 0 = λ e. rw e none in
    grind (arith, nat_tests, now, here) in
    let here : take (kept + 1) (set list kept d) ≡ take kept list ++ d ∷ [] = take_more_set list kept d (omega arith) in
    let rest : drop (i + 1) (set list kept d) ≡ drop (i + 1) list = drop-set-lt (i + 1) list kept d (omega arith) in
    let next : drop i list ≡ d ∷ drop (i + 1) list = rw add-one (drop-cons list i 0 within) in
    let stays : without_counted before (drop i list) ≡ d ∷ without_counted before (drop (i + 1) list) = ap (without_counted before) next
    ∙ without_counted-none before d (drop (i + 1) list) none in
    let as_before : without_counted after (drop (i + 1) list) ≡ without_counted before (drop (i + 1) list) =
    without_counted-same after before (drop (i + 1) list) same in
    rw (here, rest, as_before) (append_assoc (take kept list) (d ∷ []) (without_counted before (drop (i + 1) list))
    ∙ ap (λ l. take kept list ++ l) (sym stays) ∙ so_far)

-- and one that leaves a copy out
pub left_out : (before after : ℕ → ℕ) (list left : List ℕ) (kept i : ℕ) → i < length list
    → 0 < before (get_or list i 0)
    → ((x : ℕ) → after x ≡ one_less before (get_or list i 0) x)
    → take kept list ++ without_counted before (drop i list) ≡ left
    → take kept list ++ without_counted after (drop (i + 1) list) ≡ left
left_out before after list left kept i within some less so_far =
    let d = get_or list i 0 in
    let next : drop i list ≡ d ∷ drop (i + 1) list = rw add-one (drop-cons list i 0 within) in
    let goes : without_counted before (drop i list) ≡ without_counted (one_less before d) (drop (i + 1) list) = ap (without_counted before) next
    ∙ without_counted-some before d (drop (i + 1) list) some in
    let now : without_counted after (drop (i + 1) list) ≡ without_counted (one_less before d) (drop (i + 1) list) =
    without_counted-same after (one_less before d) (drop (i + 1) list) less in
    ap (λ l. take kept list ++ l) (now ∙ sym goes) ∙ so_far
