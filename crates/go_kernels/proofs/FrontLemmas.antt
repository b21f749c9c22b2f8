-- The vertices that a search marks are the next front.
use Rattle.std.proofs.Common.{◌≡◌, ◌≢◌, ℕ, ◌+◌, ◌<◌, ◌≤◌, ⊎_elim, List, [], ◌∷◌, ◌++◌}
use Rattle.std.proofs.Common.{length, get_or, set, refl, sym, ◌∙◌, ap, subst, arith, length-set, length-append}
use Rattle.std.proofs.lemmas.List.{get_or-set_same, get_or-set_other}
use Rattle.std.proofs.lemmas.List.Elements.{Contains-push, Contains-push_cases, Contains-append_left, Contains-get_or}
use Rattle.std.proofs.lemmas.List.Sorted.{Contains-permutation, IsPermutation-sym}
use Rattle.std.proofs.lemmas.Bool.{cases_eq}
use Rattle.std.proofs.lemmas.Bool.Decides.{nat_tests}
use Rattle.std.specs.List.Sorted.{IsPermutation}
use Rattle.std.specs.Prelude.{All, ◌==◌, Contains, Option, Some, None, is_none, is_some}
use Rattle.std.proofs.Common.{Bool, not, true, false, fold, take, replicate}
use Rattle.std.proofs.lemmas.List.Sums.{fold_more}
use Rattle.go_word.specs.declared.edge.Edge.{Edge}
use Rattle.go_model.specs.Search.{mark, unmarked, IsFront}
use Rattle.go_model.proofs.MarkLemmas.{unmarked-set}
use Rattle.go_model.proofs.MemberLemmas.{Contains-none}
use Rattle.go_model.proofs.LevelLemmas.{AreLevelsTo, left-root, root-here, root-alone}
use Rattle.go_kernels.specs.Steps.{KeepsFront}

-- without a mark
pub KeepsFront-same : (level : ℕ) (levels : List (Option ℕ)) (next : List ℕ) → KeepsFront level levels levels next next
KeepsFront-same level levels next = record { front = λ is. is; counted = refl }

-- marks, and then some more
pub KeepsFront-then : (level : ℕ) (one two three : List (Option ℕ)) (a b c : List ℕ) → KeepsFront level one two a b → KeepsFront level two three b c →
    KeepsFront level one three a c
KeepsFront-then level one two three a b c first later = record {
  front = λ is. later.front (first.front is);
  counted = let f = first.counted in let l = later.counted in omega arith;
}

-- one mark
pub KeepsFront-mark : (level : ℕ) (levels : List (Option ℕ)) (next : List ℕ) (v : ℕ) → v < length levels → get_or levels v None ≡ None →
    KeepsFront level levels (set levels v (Some level)) next (next ++ v ∷ [])
KeepsFront-mark level levels next v within none =
    let long : length (set levels v (Some level)) ≡ length levels = length-set levels v (Some level) in
    let here : get_or (set levels v (Some level)) v None ≡ Some level = get_or-set_same levels v (Some level) None within in
    record {
      front = λ is. record {
        within = λ u among. ⊎_elim (λ old. let w = is.within u old in omega arith) (λ e. let same = e in omega arith) (Contains-push_cases next v u among);
        there = λ u among. ⊎_elim
            (λ old.
            let other : u ≢ v = λ e. absurd (let at : get_or levels v None ≡ Some level =
            subst (λ (k : ℕ). get_or levels k None ≡ Some level) e (is.there u old) in cc) in
            get_or-set_other levels v u (Some level) None other ∙ is.there u old)
            (λ e. subst (λ (k : ℕ). get_or (set levels v (Some level)) k None ≡ Some level) e here)
            (Contains-push_cases next v u among);
        all = λ u below at. ⊎_elim
            (λ e. subst (λ (k : ℕ). Contains (next ++ v ∷ []) k) (sym e) (Contains-push next v))
            (λ other. Contains-append_left next (v ∷ []) u (is.all u (omega arith) (sym (get_or-set_other levels v u (Some level) None other) ∙ at)))
            (cases_eq u v);
      };
      counted =
          let less = unmarked-set level levels v within none in
          let more : length (next ++ v ∷ []) ≡ length next + 1 = length-append next (v ∷ []) in
          omega arith;
    }

-- at first the next level is empty
pub IsFront-none : (log : List Edge) (size r level : ℕ) (levels : List (Option ℕ)) → AreLevelsTo log size r level levels → IsFront levels (level + 1) []
IsFront-none log size r level levels so_far = record {
  within = λ v among. absurd (Contains-none v among);
  there = λ v among. absurd (Contains-none v among);
  all = λ v within at. absurd (let known = so_far.known v (level + 1) at in let most = known.1 in omega arith);
}

-- a front in another order is the same front
pub IsFront-sorted : (levels : List (Option ℕ)) (level : ℕ) (front sorted : List ℕ) → IsPermutation front sorted → IsFront levels level front →
    IsFront levels level sorted
IsFront-sorted levels level front sorted permutation is =
    let back : (v : ℕ) → Contains sorted v → Contains front v = λ v. Contains-permutation sorted front v (IsPermutation-sym front sorted permutation) in
    record {
      within = λ v among. is.within v (back v among);
      there = λ v among. is.there v (back v among);
      all = λ v within at. Contains-permutation front sorted v permutation (is.all v within at);
    }

-- at first the root alone is at a level
pub IsFront-root : (log : List Edge) (size r : ℕ) (levels : List (Option ℕ)) → r < length levels → get_or levels r None ≡ Some 0
    → ((v : ℕ) → v ≢ r → get_or levels v None ≡ None) → IsFront levels 0 (r ∷ [])
IsFront-root log size r levels within here others = record {
  within = λ v among. ⊎_elim (λ none. absurd (Contains-none v none)) (λ e. let same = e in omega arith) (Contains-push_cases [] r v among);
  there = λ v among. ⊎_elim
      (λ none. absurd (Contains-none v none))
      (λ e. subst (λ (k : ℕ). get_or levels k None ≡ Some 0) e here) (Contains-push_cases [] r v among);
  all = λ v inside at. ⊎_elim
      (λ e. subst (λ (k : ℕ). Contains (r ∷ []) k) (sym e) (Contains-push [] r))
      (λ other. absurd (let none = others v other in cc))
      (cases_eq v r);
}

-- what a test for no level tells
is_none_none : (o : Option ℕ) → is_none o ≡ true → o ≡ None
is_none_none None is = refl
is_none_none (Some n) is = absurd (cc)

-- a vertex without a level is marked
pub marked-none : (level : ℕ) (levels : List (Option ℕ)) (v : ℕ) → is_none (get_or levels v None) ≡ true → mark level levels v ≡ set levels v (Some level)
marked-none level levels v is = rw is refl

-- and another one isn't
pub marked-some : (level : ℕ) (levels : List (Option ℕ)) (v : ℕ) → is_none (get_or levels v None) ≡ false → mark level levels v ≡ levels
marked-some level levels v is = rw is refl

-- the step of a loop that marks a list
pub marked-more : (level : ℕ) (from levels after : List (Option ℕ)) (list : List ℕ) (i : ℕ) → i < length list → levels ≡ fold (mark level) from (take i list)
    → after ≡ mark level levels (get_or list i 0) → after ≡ fold (mark level) from (take (i + 1) list)
marked-more level from levels after list i within so_far is =
    is ∙ ap (λ (l : List (Option ℕ)). mark level l (get_or list i 0)) so_far ∙ sym (fold_more (mark level) from list i 0 within)

-- and of what it lists
pub KeepsFront-more : (level : ℕ) (from levels : List (Option ℕ)) (next begun : List ℕ) (v : ℕ) → v < length levels
    → is_none (get_or levels v None) ≡ true → KeepsFront level from levels begun next
    → KeepsFront level from (set levels v (Some level)) begun (next ++ v ∷ [])
KeepsFront-more level from levels next begun v within is so_far =
    KeepsFront-then level from levels (set levels v (Some level)) begun next (next ++ v ∷ []) so_far
    (KeepsFront-mark level levels next v within (is_none_none (get_or levels v None) is))

-- the sizes of levels and fronts of a rooted list
pub rooted-front : (log : List Edge) (size r : ℕ) (levels : List (Option ℕ)) (front : List ℕ) → r < size → length levels ≡ size
    → levels ≡ set (replicate size None) r (Some 0) → front ≡ r ∷ [] → IsFront levels 0 front × (0 + unmarked levels + length front ≤ length levels)
rooted-front log size r levels front root long is are =
    let left = left-root size r levels root is in
    rw are (IsFront-root log size r levels (omega arith) (rw is (root-here size r r root refl)) (λ v other. rw is (root-alone size r v other)), omega arith)

-- what a test for emptiness tells of a length
pub some-vertex : (n : ℕ) → false ≡ (n == 0) → 0 < n
some-vertex n is = grind (arith, nat_tests)

pub no-vertex : (n : ℕ) → true ≡ (n == 0) → n ≡ 0
no-vertex n is = grind (arith, nat_tests)

-- the vertices of a front in another order are there
pub sorted-below : (levels : List (Option ℕ)) (level : ℕ) (front sorted list : List ℕ) → IsPermutation front sorted → list ≡ sorted → IsFront levels level front
    → All (λ v. v < length levels) list
sorted-below levels level front sorted list permutation same is =
    let at = IsFront-sorted levels level front sorted permutation is in
    rw same (λ k d within. at.within (get_or sorted k d) (Contains-get_or sorted k d within))

-- where a front is empty, no vertex is at its level
pub empty-front : (levels : List (Option ℕ)) (level : ℕ) (front : List ℕ) → IsFront levels level front → length front ≡ 0
    → (v : ℕ) → v < length levels → get_or levels v None ≢ Some level
empty-front levels level front is none v within at = let among = is.all v within at in let inside = among.1 in omega arith

-- the next front, and what is left
pub next-front : (log : List Edge) (size r level n : ℕ) (old new : List (Option ℕ)) (begun next : List ℕ) → AreLevelsTo log size r level old → begun ≡ []
    → KeepsFront (level + 1) old new begun next → 0 < n → level + unmarked old + n ≤ length old → length new ≡ length old
    → IsFront new (level + 1) next × (level + 1 + unmarked new + length next ≤ length new)
next-front log size r level n old new begun next so_far none keeps some left long =
    let begins : IsFront old (level + 1) begun = rw none (IsFront-none log size r level old so_far) in
    let counted = keeps.counted in
    let empty : length begun ≡ 0 = rw none refl in
    (keeps.front begins, omega arith)

-- what a test for no level says
pub none_told : (o : Option ℕ) (b : Bool) → is_some o ≡ not b → is_none o ≡ b
none_told None true says = refl
none_told None false says = absurd (cc)
none_told (Some n) true says = absurd (cc)
none_told (Some n) false says = refl
