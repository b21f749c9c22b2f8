-- A store's log is laid: an old one, and then an interleaving of what its sessions put; and so is each part of it that has the old one.
use Rattle.std.proofs.Common.{◌≡◌, ◌≢◌, ◌⊎◌, ℕ, zero, suc, ◌+◌, ◌-◌, ◌<◌, ◌≤◌, ◌==◌, if◌then◌else◌}
use Rattle.std.proofs.Common.{Bool, true, false, List, [], ◌∷◌, ◌++◌, length, take, drop, map}
use Rattle.std.proofs.Common.{slice_get, Some, refl, ap, arith, sym, subst, ◌∙◌, inl, inr, drop-cons, take_all}
use Rattle.std.specs.Prelude.{All, count_by, sum_by}
use Rattle.std.specs.List.{AllByRecursion}
use Rattle.std.proofs.lemmas.Bool.Decides.{eqb_tells, nat_tests}
use Rattle.std.proofs.lemmas.List.{length-take-le, length-take, length-drop, take-take}
use Rattle.std.proofs.lemmas.List.Elements.{All-take}
use Rattle.std.proofs.lemmas.List.Sums.{sum_by-cons}
use Rattle.go_word.specs.declared.edge.Edge.{Edge}
use Rattle.go_api.specs.Alone.{positions}
use Rattle.go_api.specs.Laid.{Rises, HasPuts, HasAllPuts, times_owned, Laid, IsWhole}
use Rattle.go_plain.specs.Owners.{owned, put_by, owns_of, puts_of, IsSession, HasOwners}
use Rattle.go_plain.proofs.OwnersLemmas.{owned_rises, owned_below, length-owned}

-- how often a position stands in a list: whether it is the first one, and among the others
count_first : (p x : ℕ) (own : List ℕ) → count_by (λ q. q == p) (x ∷ own) ≡ (if x == p then 1 else 0) + count_by (λ q. q == p) own
count_first p x own = sum_by-cons (λ (q : ℕ). if q == p then 1 else 0) x own

-- a sum without its first part, which is none
skip_one : (b : Bool) (total rest : ℕ) → b ≡ false → total ≡ (if b then 1 else 0) + rest → total ≡ rest
skip_one false total rest is step = omega (arith, step)
skip_one true total rest is step = absurd (let h : true ≡ false = is in cc)

-- or with its first part alone
count_one : (b : Bool) (total rest : ℕ) → b ≡ true → total ≡ (if b then 1 else 0) + rest → rest ≡ 0 → total ≡ 1
count_one true total rest is step none = omega (arith, step, none)
count_one false total rest is step none = absurd (let h : false ≡ true = is in cc)

-- a position in front of all isn't among those of a session
not_owned : (p first number : ℕ) (owners : List ℕ) → p < first → count_by (λ q. q == p) (owned first number owners) ≡ 0
not_owned p first number [] before = refl
not_owned p first number (owner ∷ owners) before =
    let rest = not_owned p (first + 1) number owners (omega (arith, before)) in
    elim (eqb_tells owner number) [
      | inl h ↦
          let step = count_first p first (owned (first + 1) number owners) in
          rw (h.0) (elim (eqb_tells first p) [
            | inl g ↦ absurd (omega (arith, before, g.1))
            | inr g ↦ skip_one (first == p) (count_by (λ q. q == p) (first ∷ owned (first + 1) number owners))
                (count_by (λ q. q == p) (owned (first + 1) number owners)) g.0 step ∙ rest
          ])
      | inr h ↦ rw (h.0) rest
    ]

-- a position is one of a session once, where its owner is that session, and else not
owned_once : (p first number : ℕ) (owners : List ℕ) (k owner : ℕ) → p ≡ first + k → slice_get owners k ≡ Some owner →
    count_by (λ q. q == p) (owned first number owners) ≡ (if owner == number then 1 else 0)
owned_once p first number [] k owner at there = absurd (let h : slice_get [] k ≡ Some owner = there in cc)
owned_once p first number (o ∷ owners) zero owner at there =
    let same : o ≡ owner = (let h : Some o ≡ Some owner = there in cc) in
    let rest = not_owned p (first + 1) number owners (omega (arith, at)) in
    elim (eqb_tells o number) [
      | inl h ↦
          let step = count_first p first (owned (first + 1) number owners) in
          rw (sym same, h.0) (elim (eqb_tells first p) [
            | inl g ↦ count_one (first == p) (count_by (λ q. q == p) (first ∷ owned (first + 1) number owners))
                (count_by (λ q. q == p) (owned (first + 1) number owners)) g.0 step rest
            | inr g ↦ absurd (g.1 (omega (arith, at)))
          ])
      | inr h ↦ rw (sym same, h.0) rest
    ]
owned_once p first number (o ∷ owners) (suc k) owner at there =
    let rest = owned_once p (first + 1) number owners k owner (omega (arith, at)) there in
    elim (eqb_tells o number) [
      | inl h ↦
          let step = count_first p first (owned (first + 1) number owners) in
          rw (h.0) (elim (eqb_tells first p) [
            | inl g ↦ absurd (omega (arith, at, g.1))
            | inr g ↦ skip_one (first == p) (count_by (λ q. q == p) (first ∷ owned (first + 1) number owners))
                (count_by (λ q. q == p) (owned (first + 1) number owners)) g.0 step ∙ rest
          ])
      | inr h ↦ rw (h.0) rest
    ]

-- how many of some sessions a number is
abbrev among : ℕ → List ℕ → ℕ
among owner numbers = sum_by (λ number. if owner == number then 1 else 0) numbers

among_cons : (owner n : ℕ) (numbers : List ℕ) → among owner (n ∷ numbers) ≡ (if owner == n then 1 else 0) + among owner numbers
among_cons owner n numbers = sum_by-cons (λ (number : ℕ). if owner == number then 1 else 0) n numbers

among_none : (owner first count : ℕ) → owner < first → among owner (positions first count) ≡ 0
among_none owner first zero before = refl
among_none owner first (suc count) before =
    let rest = among_none owner (first + 1) count (omega (arith, before)) in
    elim (eqb_tells owner first) [
      | inl h ↦ absurd (omega (arith, before, h.1))
      | inr h ↦ skip_one (owner == first) (among owner (first ∷ positions (first + 1) count)) (among owner (positions (first + 1) count)) h.0
          (among_cons owner first (positions (first + 1) count)) ∙ rest
    ]

-- it is one of them once
among_once : (owner first count : ℕ) → first ≤ owner → owner < first + count → among owner (positions first count) ≡ 1
among_once owner first zero from to = absurd (omega (arith, from, to))
among_once owner first (suc count) from to =
    let step = among_cons owner first (positions (first + 1) count) in
    elim (eqb_tells owner first) [
      | inl h ↦
          let rest = among_none owner (first + 1) count (omega (arith, h.1)) in
          count_one (owner == first) (among owner (first ∷ positions (first + 1) count)) (among owner (positions (first + 1) count)) h.0 step rest
      | inr h ↦
          let rest = among_once owner (first + 1) count (omega (arith, from, h.1)) (omega (arith, to)) in
          skip_one (owner == first) (among owner (first ∷ positions (first + 1) count)) (among owner (positions (first + 1) count)) h.0 step ∙ rest
    ]

-- a position is owned by as many of some sessions as its owner is of them
times_among : (p first : ℕ) (owners : List ℕ) (k owner : ℕ) (numbers : List ℕ) → p ≡ first + k → slice_get owners k ≡ Some owner →
    times_owned p (map (λ number. owned first number owners) numbers) ≡ among owner numbers
times_among p first owners k owner [] at there = refl
times_among p first owners k owner (n ∷ numbers) at there =
    let rest = times_among p first owners k owner numbers at there in
    let one = owned_once p first n owners k owner at there in
    let step : times_owned p (map (λ number. owned first number owners) (n ∷ numbers))
    ≡ count_by (λ q. q == p) (owned first n owners) + times_owned p (map (λ number. owned first number owners) numbers) =
    sum_by-cons (λ (own : List ℕ). count_by (λ q. q == p) own) (owned first n owners) (map (λ number. owned first number owners) numbers) in
    step ∙ rw (one, rest) (sym (among_cons owner n numbers))

-- the owner of an entry
owner_there : (owners : List ℕ) (k count : ℕ) → k < length owners → All (IsSession count) owners →
    (owner : ℕ) × (slice_get owners k ≡ Some owner) × IsSession count owner
owner_there [] k count within sessions = absurd (omega (arith, within))
owner_there (o ∷ owners) zero count within sessions = (o, refl, sessions 0 o (omega arith))
owner_there (o ∷ owners) (suc k) count within sessions =
    owner_there owners k count (omega (arith, within)) (λ i d below. sessions (suc i) d (omega (arith, below)))

-- what lies behind the first of some entries, and that one in a longer part
drop_next : (n : ℕ) (xs : List Edge) (x : Edge) (rest : List Edge) → drop n xs ≡ x ∷ rest → drop (suc n) xs ≡ rest
drop_next zero (y ∷ xs) x rest is = (let h : y ∷ xs ≡ x ∷ rest = is in cc)
drop_next zero [] x rest is = absurd (let h : length {A = Edge} [] ≡ suc (length rest) = ap length is in omega (arith, h))
drop_next (suc n) [] x rest is = absurd (let h : length {A = Edge} [] ≡ suc (length rest) = ap length is in omega (arith, h))
drop_next (suc n) (y ∷ xs) x rest is = drop_next n xs x rest is

get_taken : (n m : ℕ) (xs : List Edge) (x : Edge) (rest : List Edge) → drop n xs ≡ x ∷ rest → n < m → slice_get (take m xs) n ≡ Some x
get_taken zero (suc m) (y ∷ xs) x rest is less = ap (λ (z : Edge). Some z) (let h : y ∷ xs ≡ x ∷ rest = is in cc)
get_taken zero zero (y ∷ xs) x rest is less = absurd (omega (arith, less))
get_taken zero m [] x rest is less = absurd (let h : length {A = Edge} [] ≡ suc (length rest) = ap length is in omega (arith, h))
get_taken (suc n) m [] x rest is less = absurd (let h : length {A = Edge} [] ≡ suc (length rest) = ap length is in omega (arith, h))
get_taken (suc n) zero (y ∷ xs) x rest is less = absurd (omega (arith, less))
get_taken (suc n) (suc m) (y ∷ xs) x rest is less = get_taken n m xs x rest is (omega (arith, less))

-- what a session put lies at its positions, in a part of the log too
puts_there : (number first : ℕ) (log : List Edge) (owners : List ℕ) (j : ℕ) → first + length owners ≡ length log → j ≤ length owners →
    HasPuts (take (first + j) log) (owned first number (take j owners)) (put_by number owners (drop first log))
puts_there number first log owners zero long within = tt
puts_there number first log [] (suc j) long within = absurd (omega (arith, within))
puts_there number first log (owner ∷ owners) (suc j) long within =
    with_entry (drop first log) refl (puts_there number (first + 1) log owners j (omega (arith, long)) (omega (arith, within))) where
      reach : first + suc j ≡ (first + 1) + j
      reach = omega arith

      with_entry : (rest : List Edge) → drop first log ≡ rest →
          HasPuts (take ((first + 1) + j) log) (owned (first + 1) number (take j owners)) (put_by number owners (drop (first + 1) log)) →
          HasPuts (take (first + suc j) log) (owned first number (take (suc j) (owner ∷ owners))) (put_by number (owner ∷ owners) (drop first log))
      with_entry [] are behind = absurd (omega (arith, ap length are, length-drop first log, long))
      with_entry (e ∷ rest) are behind =
          let later : drop (first + 1) log ≡ rest = ap (λ (n : ℕ). drop n log) (let one : first + 1 ≡ suc first = omega arith in one)
          ∙ drop_next first log e rest are in
          let at : slice_get (take (first + suc j) log) first ≡ Some e = get_taken first (first + suc j) log e rest are (omega arith) in
          let more : HasPuts (take (first + suc j) log) (owned (first + 1) number (take j owners)) (put_by number owners rest) =
          subst (λ (l : List Edge). HasPuts (take (first + suc j) log) (owned (first + 1) number (take j owners)) (put_by number owners l)) later
          (subst (λ (n : ℕ). HasPuts (take n log) (owned (first + 1) number (take j owners)) (put_by number owners (drop (first + 1) log)))
          (sym reach) behind) in
          elim (eqb_tells owner number) [
            | inl h ↦ rw (are, h.0) (at, more)
            | inr h ↦ rw (are, h.0) more
          ]

-- so it is of some sessions
all_there : (first : ℕ) (log : List Edge) (owners : List ℕ) (j : ℕ) (numbers : List ℕ) → first + length owners ≡ length log → j ≤ length owners →
    HasAllPuts (take (first + j) log) (map (λ number. owned first number (take j owners)) numbers)
    (map (λ number. put_by number owners (drop first log)) numbers)
all_there first log owners j [] long within = tt
all_there first log owners j (n ∷ numbers) long within = (puts_there n first log owners j long within, all_there first log owners j numbers long within)

all_rise : (first : ℕ) (owners numbers : List ℕ) → AllByRecursion (Rises first) (map (λ number. owned first number owners) numbers)
all_rise first owners [] = tt
all_rise first owners (n ∷ numbers) = (owned_rises first n owners, all_rise first owners numbers)

all_whole : (first : ℕ) (owners : List ℕ) (entries : List Edge) (numbers : List ℕ) → length owners ≡ length entries →
    IsWhole (map (λ number. owned first number owners) numbers) (map (λ number. put_by number owners entries) numbers)
all_whole first owners entries [] long = tt
all_whole first owners entries (n ∷ numbers) long = (length-owned first n owners entries long, all_whole first owners entries numbers long)

-- the log up to a front that isn't below the old one's length is the old one, and then what the sessions put there
pub laid_part : (count first : ℕ) (log : List Edge) (owners : List ℕ) (n : ℕ) → HasOwners count first log owners → first ≤ n → n ≤ length log →
    Laid (take first log) (take n log) (owns_of count first (take (n - first) owners)) (puts_of count owners (drop first log))
laid_part count first log owners n has from to =
    let j = n - first in
    let reach : first + j ≡ n = omega (arith, from) in
    let within : j ≤ length owners = omega (arith, has.each, to, from) in
    let old : length (take first log) ≡ first = length-take-le first log (omega (arith, from, to)) in
    let short : length (take j owners) ≡ j = length-take-le j owners within in
    let long : length (take n log) ≡ n = length-take-le n log to in
    record {
      begins = rw old (take-take first n log from);
      rising = rw old (all_rise first (take j owners) (positions 1 count));
      once = λ p above below.
          let there = owner_there (take j owners) (p - first) count (omega (arith, above, below, old, short, long, reach))
          (All-take (IsSession count) j owners has.sessions) in
          times_among p first (take j owners) (p - first) there.0 (positions 1 count) (omega (arith, above, old)) there.1
          ∙ among_once there.0 1 count there.2.from (omega (arith, there.2.to));
      placed = subst (λ (m : ℕ). HasAllPuts (take m log) (owns_of count first (take j owners)) (puts_of count owners (drop first log))) reach
          (all_there first log owners j (positions 1 count) has.each within);
    }

-- so is the whole log, and each entry has its position
pub laid_whole : (count first : ℕ) (log : List Edge) (owners : List ℕ) → HasOwners count first log owners →
    Laid (take first log) log (owns_of count first owners) (puts_of count owners (drop first log))
    × IsWhole (owns_of count first owners) (puts_of count owners (drop first log))
laid_whole count first log owners has =
    let n = length log in
    let all : take (n - first) owners ≡ owners = take_all (n - first) owners (omega (arith, has.each)) in
    let part = laid_part count first log owners n has (omega (arith, has.each)) (omega arith) in (
      subst (λ (l : List Edge). Laid (take first log) l (owns_of count first owners) (puts_of count owners (drop first log))) (take_all n log (omega arith))
          (subst (λ (o : List ℕ). Laid (take first log) (take n log) (owns_of count first o) (puts_of count owners (drop first log))) all part),
      all_whole first owners (drop first log) (positions 1 count) (omega (arith, has.each, length-drop first log)),
    )
