-- A search that goes level by level finds the levels.
use Rattle.std.proofs.Common.{◌≡◌, ◌≢◌, ℕ, zero, suc, ◌+◌, ◌<◌, ◌≤◌, ⊎_elim, List}
use Rattle.std.proofs.Common.{length, get_or, set, replicate, refl, sym, ◌∙◌, subst, arith, length-set, add-one}
use Rattle.std.proofs.lemmas.List.{length-replicate, get_or-set_same, get_or-set_other}
use Rattle.std.proofs.lemmas.Bool.{cases_eq}
use Rattle.std.specs.Prelude.{All, Contains, Option, Some, None, is_none, if◌then◌else◌}
use Rattle.std.proofs.lemmas.List.Sums.{sum_by-cons}
use Rattle.go_word.specs.declared.edge.Edge.{Edge}
use Rattle.go_word.specs.Log.{IsWithin}
use Rattle.go_word.specs.Neighbours.{neighbours}
use Rattle.go_model.specs.Levels.{Leads, Walk, IsLeast, AreLevels}
use Rattle.go_model.specs.Search.{spread, unmarked, IsFront}
use Rattle.go_model.proofs.WithinLemmas.{Walk-below, Leads-below}
use Rattle.go_model.proofs.MarkLemmas.{unmarked-set, Marks, Marks-spread, known_or_not}

-- a list has the levels up to a number: what has one has its own, and what has none has no walk so short
pub record AreLevelsTo (log : List Edge) (size r level : ℕ) (levels : List (Option ℕ)) : Type 0 where
  pub long : length levels ≡ size
  pub known : (v n : ℕ) → get_or levels v None ≡ Some n → IsLeast log r v n × (n ≤ level)
  pub unknown : (v n : ℕ) → v < size → get_or levels v None ≡ None → Walk log r v n → level < n

-- a vertex that a walk of no more edges leads to has a level that is no greater
reached : (log : List Edge) (size r level : ℕ) (levels : List (Option ℕ)) → All (IsWithin size) log → r < size →
    AreLevelsTo log size r level levels → (v n : ℕ) → Walk log r v n → n ≤ level →
    (m : ℕ) × (get_or levels v None ≡ Some m) × (m ≤ n)
reached log size r level levels ids root so_far v n walk short = ⊎_elim
    (λ none. absurd (let longer = so_far.unknown v n (Walk-below size log r v n ids root walk) none walk in omega arith))
    (λ (m, has). (m, has, (so_far.known v m has).0.least n walk))
    (known_or_not (get_or levels v None))

-- what an edge from the front leads to, where it has no level yet, has the next one
next-level : (log : List Edge) (size r level : ℕ) (levels : List (Option ℕ)) (front : List ℕ) (v a : ℕ)
    → AreLevelsTo log size r level levels → IsFront levels level front → v < size → get_or levels v None ≡ None
    → Contains front a → Leads log a v → IsLeast log r v (level + 1)
next-level log size r level levels front v a so_far is_front within none among leads = record {
  walk = let here : Walk log r a level = (so_far.known a level (is_front.there a among)).0.walk in rw add-one (a, here, leads);
  least = λ m walk. let longer = so_far.unknown v m within none walk in omega arith;
}

-- what has no level once the front is spread has no walk of so many edges
still-unknown : (log : List Edge) (size r level : ℕ) (levels : List (Option ℕ)) (front : List ℕ) (v n : ℕ)
    → All (IsWithin size) log → r < size → AreLevelsTo log size r level levels → IsFront levels level front
    → v < size → get_or levels v None ≡ None → (((a : ℕ) × Contains front a × Leads log a v) → ⊥)
    → Walk log r v n → level + 1 < n
still-unknown log size r level levels front v zero ids root so_far is_front within none unled walk =
    absurd (let longer = so_far.unknown v 0 within none walk in omega arith)
still-unknown log size r level levels front v (suc n) ids root so_far is_front within none unled walk =
    let longer = so_far.unknown v (suc n) within none walk in
    ⊎_elim
    (λ same. absurd (
    let c = walk.0 in
    let at = reached log size r level levels ids root so_far c n walk.1 (omega arith) in
    let not_less : level ≤ at.0 =
    let further : Walk log r v (suc at.0) = (c, (so_far.known c at.0 at.1).0.walk, walk.2) in
    let l = so_far.unknown v (suc at.0) within none further in omega arith in
    let is : at.0 ≡ level = let w = at.2 in omega arith in
    let there : c < size = Walk-below size log r c n ids root walk.1 in
    unled (
      c,
      is_front.all c (subst (λ (k : ℕ). c < k) (sym so_far.long) there) (subst (λ (k : ℕ). get_or levels c None ≡ Some k) is at.1),
      walk.2,
    )))
    (λ other. let o = other in omega arith)
    (cases_eq n level)

-- the levels up to the next number, once those at the last one are spread
pub AreLevelsTo-spread : (log : List Edge) (size r level : ℕ) (levels : List (Option ℕ)) (front : List ℕ)
    → All (IsWithin size) log → r < size → AreLevelsTo log size r level levels → IsFront levels level front
    → AreLevelsTo log size r (level + 1) (spread log (level + 1) levels front)
AreLevelsTo-spread log size r level levels front ids root so_far is_front =
    let marks : Marks (level + 1) (λ v. (a : ℕ) × Contains front a × Contains (neighbours log a) v) levels (spread log (level + 1) levels front) =
    Marks-spread log (level + 1) levels front in
    record {
      long = marks.long ∙ so_far.long;
      known = λ v n has. ⊎_elim
          (λ old. let was = so_far.known v n old in (was.0, (let b = was.1 in omega arith)))
          (λ new.
          let a = new.2.0 in
          let leads : Leads log a v = new.2.2 in
          let least = next-level log size r level levels front v a so_far is_front (Leads-below size log a v ids leads) new.0 new.2.1 leads in
          (subst (λ (k : ℕ). IsLeast log r v k) (sym new.1) least, (let is = new.1 in omega arith)))
          (marks.gives v n has);
      unknown = λ v n within none walk.
          let was = marks.none v (subst (λ (k : ℕ). v < k) (sym so_far.long) within) none in
          still-unknown log size r level levels front v n ids root so_far is_front within was.0 was.1 walk;
    }

-- where no vertex is at the last level, each walk leads to a vertex that has a level
closed : (log : List Edge) (size r level : ℕ) (levels : List (Option ℕ)) → All (IsWithin size) log → r < size → AreLevelsTo log size r level levels
    → ((v : ℕ) → v < size → get_or levels v None ≢ Some level) → (v n : ℕ) → Walk log r v n → get_or levels v None ≢ None
closed log size r level levels ids root so_far empty v zero walk none =
    let longer = so_far.unknown v 0 (Walk-below size log r v 0 ids root walk) none walk in omega arith
closed log size r level levels ids root so_far empty v (suc n) walk none = ⊎_elim
    (λ lost. closed log size r level levels ids root so_far empty walk.0 n walk.1 lost)
    (λ (k, has).
    let c = walk.0 in
    let at = so_far.known c k has in
    let other : k ≢ level = λ e. empty c (Walk-below size log r c n ids root walk.1) (subst (λ (m : ℕ). get_or levels c None ≡ Some m) e has) in
    let longer = so_far.unknown v (suc k) (Walk-below size log r v (suc n) ids root walk) none (c, at.0.walk, walk.2) in
    let most = at.1 in
    omega arith)
    (known_or_not (get_or levels walk.0 None))

-- then the levels are the levels
pub AreLevels-closed : (log : List Edge) (size r level : ℕ) (levels : List (Option ℕ)) → All (IsWithin size) log → r < size
    → AreLevelsTo log size r level levels
    → ((v : ℕ) → v < size → get_or levels v None ≢ Some level) → AreLevels log size r levels
AreLevels-closed log size r level levels ids root so_far empty = record {
  all = so_far.long;
  each = λ v within. ⊎_elim
      (λ none. rw none (λ n walk. closed log size r level levels ids root so_far empty v n walk none))
      (λ (m, has). rw has ((so_far.known v m has).0))
      (known_or_not (get_or levels v None));
}

-- a list in which no vertex has a level
abbrev pub none_yet : ℕ → List (Option ℕ)
none_yet size = replicate size None

-- and one in which the root has
abbrev pub rooted : ℕ → ℕ → List (Option ℕ)
rooted size r = set (none_yet size) r (Some 0)

-- no vertex has a level where none has one
get_or-none : (size v : ℕ) → get_or (none_yet size) v None ≡ None
get_or-none zero v = refl
get_or-none (suc size) zero = refl
get_or-none (suc size) (suc v) = get_or-none size v

-- the root is at level 0
pub root-here : (size r v : ℕ) → r < size → v ≡ r → get_or (rooted size r) v None ≡ Some 0
root-here size r v root e =
    let long : length (none_yet size) ≡ size = length-replicate size None in
    rw e (get_or-set_same (none_yet size) r (Some 0) None (omega arith))

-- and no other vertex is at one
pub root-alone : (size r v : ℕ) → v ≢ r → get_or (rooted size r) v None ≡ None
root-alone size r v other = get_or-set_other (none_yet size) r v (Some 0) None other ∙ get_or-none size v

-- what has none isn't the root
root-unknown : (log : List Edge) (size r v n : ℕ) → r < size → get_or (rooted size r) v None ≡ None → Walk log r v n → 0 < n
root-unknown log size r v zero root none walk = absurd (let at = root-here size r v root (sym walk) in cc)
root-unknown log size r v (suc n) root none walk = omega arith

-- no walk from the root to itself is shorter than none
root-least : (log : List Edge) (r v n : ℕ) → v ≡ r → n ≡ 0 → IsLeast log r v n
root-least log r v n e is = subst (λ (k : ℕ). IsLeast log r v k) (sym is) (record { walk = sym e; least = λ m walk. omega arith })

-- so the levels up to 0 are right
pub AreLevelsTo-root : (log : List Edge) (size r : ℕ) (levels : List (Option ℕ)) → r < size → levels ≡ rooted size r → AreLevelsTo log size r 0 levels
AreLevelsTo-root log size r levels root is = rw is (record {
  long = length-set (none_yet size) r (Some 0) ∙ length-replicate size None;
  known = λ v n has. ⊎_elim
      (λ e. let at = root-here size r v root e in let zeroth : n ≡ 0 = cc in (root-least log r v n e zeroth, (omega arith)))
      (λ other. absurd (let at = root-alone size r v other in cc))
      (cases_eq v r);
  unknown = λ v n within none walk. root-unknown log size r v n root none walk;
})

-- no vertex is marked at first
none-marked : (size : ℕ) → unmarked (none_yet size) ≡ size
none-marked zero = refl
none-marked (suc size) = let rest = none-marked size in omega (arith, sum_by-cons (λ o. if is_none o then 1 else 0) None (none_yet size))

-- and one vertex less than all is left
pub left-root : (size r : ℕ) (levels : List (Option ℕ)) → r < size → levels ≡ rooted size r → unmarked levels + 1 ≡ size
left-root size r levels root is =
    let long : length (none_yet size) ≡ size = length-replicate size None in
    let less = unmarked-set 0 (none_yet size) r (omega arith) (get_or-none size r) in
    let all = none-marked size in
    rw is (omega arith)

-- a turn of the search
pub AreLevelsTo-next : (log : List Edge) (size r level : ℕ) (old new : List (Option ℕ)) (front : List ℕ)
    → All (IsWithin size) log → r < size → length old ≡ size → length new ≡ length old → new ≡ spread log (level + 1) old front
    → IsFront old level front → AreLevelsTo log (length old) r level old → AreLevelsTo log (length new) r (level + 1) new
AreLevelsTo-next log size r level old new front ids root long same is is_front so_far =
    let here : AreLevelsTo log size r level old = subst (λ (n : ℕ). AreLevelsTo log n r level old) long so_far in
    let next = AreLevelsTo-spread log size r level old front ids root here is_front in
    let at : AreLevelsTo log size r (level + 1) new = subst (λ (l : List (Option ℕ)). AreLevelsTo log size r (level + 1) l) (sym is) next in
    subst (λ (n : ℕ). AreLevelsTo log n r (level + 1) new) (sym (same ∙ long)) at

-- a turn that marks nothing leaves the next level empty
pub empty-next : (log : List Edge) (size r level : ℕ) (old new : List (Option ℕ)) → AreLevelsTo log size r level old → new ≡ old
    → (v : ℕ) → get_or new v None ≢ Some (level + 1)
empty-next log size r level old new so_far same v has =
    let known = so_far.known v (level + 1) (subst (λ (l : List (Option ℕ)). get_or l v None ≡ Some (level + 1)) same has) in
    let most = known.1 in
    omega arith
