-- How the levels of vertices are counted, one after another.
use Rattle.std.proofs.Common.{◌≡◌, ◌≢◌, ℕ, zero, suc, ◌+◌, ◌-◌, ◌<◌, ◌≤◌, Bool, true, false, ◌⊎◌, inl, inr}
use Rattle.std.proofs.Common.{⊎_elim, List, length, get_or, set, take, drop, ◌++◌, refl, sym, ◌∙◌, ap, subst, arith, cond}
use Rattle.std.proofs.Math.ListN.{get_or-eq_default}
use Rattle.std.proofs.lemmas.List.{get_or-set_same, get_or-set_other, get_or-take, length-take}
use Rattle.std.proofs.lemmas.List.Elements.{All-from_get_or}
use Rattle.std.proofs.lemmas.List.Sums.{count_by_more_yes, count_by_more_no, count_by-le-length, get_or-le-sum_by}
use Rattle.std.proofs.lemmas.Grind.{common_steps}
use Rattle.std.proofs.lemmas.Bool.{cases_eq, cases_lt}
use Rattle.std.proofs.lemmas.Bool.Decides.{nat_tests}
use Rattle.std.specs.Prelude.{All, ◌==◌, count_by, sum_by, Option, Some, None, is_none}
use Rattle.go_model.specs.Counts.{is_at, IsFull, AreCountsOf}
use Rattle.go_kernels.specs.Depth.{IsDepth, AreCounted}

-- one without a level
pub counted-none : (levels : List (Option ℕ)) (i : ℕ) (counts : List ℕ) (unreached : ℕ) → i < length levels → get_or levels i None ≡ None
    → AreCounted (take i levels) counts unreached → AreCounted (take (i + 1) levels) counts (unreached + 1)
counted-none levels i counts unreached within is so_far = record {
  each = λ n. so_far.each n ∙ sym (count_by_more_no (is_at n) levels i None within (ap (is_at n) is));
  never = ap (λ m. m + 1) so_far.never ∙ sym (count_by_more_yes is_none levels i None within (ap (λ (o : Option ℕ). is_none o) is));
}

-- a level is the one that it is, and no other
at-itself : (n : ℕ) → is_at n (Some n) ≡ true
at-itself n = grind (arith, nat_tests)

at-no_other : (n level : ℕ) → n ≢ level → is_at n (Some level) ≡ false
at-no_other n level other = grind (arith, nat_tests)

-- one with a level
pub counted-level : (levels : List (Option ℕ)) (i : ℕ) (counts : List ℕ) (unreached level : ℕ) → i < length levels → get_or levels i None ≡ Some level
    → level < length counts → AreCounted (take i levels) counts unreached
    → AreCounted (take (i + 1) levels) (set counts level (get_or counts level 0 + 1)) unreached
counted-level levels i counts unreached level within is inside so_far = record {
  each = λ n. ⊎_elim
      (λ e. subst (λ (k : ℕ). get_or (set counts level (get_or counts level 0 + 1)) k 0 ≡ count_by (is_at k) (take (i + 1) levels)) (sym e)
      (get_or-set_same counts level (get_or counts level 0 + 1) 0 inside ∙ ap (λ m. m + 1) (so_far.each level)
      ∙ sym (count_by_more_yes (is_at level) levels i None within (ap (is_at level) is ∙ at-itself level))))
      (λ other. get_or-set_other counts level n (get_or counts level 0 + 1) 0 other ∙ so_far.each n
      ∙ sym (count_by_more_no (is_at n) levels i None within (ap (is_at n) is ∙ at-no_other n level other)))
      (cases_eq n level);
  never = so_far.never ∙ sym (count_by_more_no is_none levels i None within (ap (λ (o : Option ℕ). is_none o) is));
}

-- no more are counted than there are
pub counted-few : (levels : List (Option ℕ)) (counts : List ℕ) (unreached n : ℕ) → AreCounted levels counts unreached → get_or counts n 0 ≤ length levels
counted-few levels counts unreached n are = subst (λ (m : ℕ). m ≤ length levels) (sym (are.each n)) (count_by-le-length (is_at n) levels)

pub never-few : (levels : List (Option ℕ)) (counts : List ℕ) (unreached : ℕ) → AreCounted levels counts unreached → unreached ≤ length levels
never-few levels counts unreached are = subst (λ (m : ℕ). m ≤ length levels) (sym are.never) (count_by-le-length is_none levels)

-- what is reached is counted
reached-counts : (levels : List (Option ℕ)) (v n : ℕ) → get_or levels v None ≡ Some n → 1 ≤ count_by (is_at n) levels
reached-counts levels v n at = ⊎_elim
    (λ within.
    let most : cond (is_at n (get_or levels v None)) 1 0 ≤ sum_by (λ y. cond (is_at n y) 1 0) levels =
    get_or-le-sum_by (λ y. cond (is_at n y) 1 0) levels v None within in
    let one : cond (is_at n (get_or levels v None)) 1 0 ≡ 1 = ap (λ (o : Option ℕ). cond (is_at n o) 1 0) at ∙ ap (λ (b : Bool). cond b 1 0) (at-itself n) in
    subst (λ (m : ℕ). m ≤ sum_by (λ y. cond (is_at n y) 1 0) levels) one most)
    (λ outside. absurd (let none : get_or levels v None ≡ None = get_or-eq_default levels None outside in cc))
    (cases_lt v (length levels))

-- each level down from the last one is reached
reached-down : (levels : List (Option ℕ)) (depth d n : ℕ) → IsFull levels → IsDepth levels depth → n + d + 1 ≡ depth → (v : ℕ) × (get_or levels v None ≡ Some n)
reached-down levels depth zero n full deep is = deep.last n (omega arith)
reached-down levels depth (suc d) n full deep is =
    let next = reached-down levels depth d (n + 1) full deep (omega arith) in
    full next.0 n next.1

-- what was counted to the depth of full levels are their counts
pub counted-full : (levels : List (Option ℕ)) (counts : List ℕ) (unreached depth : ℕ) → IsFull levels → IsDepth levels depth → length counts ≡ depth
    → AreCounted levels counts unreached → AreCountsOf levels counts unreached
counted-full levels counts unreached depth full deep long are = record {
  each = are.each;
  some = All-from_get_or (λ count. 1 ≤ count) counts 0 (λ n within.
      let reached = reached-down levels depth (depth - (n + 1)) n full deep (omega arith) in
      subst (λ (m : ℕ). 1 ≤ m) (sym (are.each n)) (reached-counts levels reached.0 n reached.1));
  never = are.never;
}

-- no more are taken than told
take-few : (i : ℕ) (levels : List (Option ℕ)) → length (take i levels) ≤ i
take-few i levels = let long = length-take i levels in grind (arith, common_steps, long)

-- two that are there are the same number
pub some-same : (a b : ℕ) → Some a ≡ Some b → a ≡ b
some-same a b e = cc

-- what is among some first ones is among one more
at-more : (levels : List (Option ℕ)) (i v n : ℕ) → i < length levels → get_or (take i levels) v None ≡ Some n → get_or (take (i + 1) levels) v None ≡ Some n
at-more levels i v n within at = ⊎_elim
    (λ inside. get_or-take (i + 1) levels v None (omega arith) ∙ sym (get_or-take i levels v None inside) ∙ at)
    (λ outside. absurd (let few : length (take i levels) ≤ i = take-few i levels in
    let none : get_or (take i levels) v None ≡ None = get_or-eq_default (take i levels) None (omega arith) in cc))
    (cases_lt v i)

-- what is among one more is the last of them, or among those before
at-cases : (levels : List (Option ℕ)) (i v n : ℕ) → i < length levels → get_or (take (i + 1) levels) v None ≡ Some n →
    (get_or levels i None ≡ Some n) ⊎ (get_or (take i levels) v None ≡ Some n)
at-cases levels i v n within at = ⊎_elim
    (λ inside. inr (get_or-take i levels v None inside ∙ sym (get_or-take (i + 1) levels v None (omega arith)) ∙ at))
    (λ outside. ⊎_elim
    (λ e. inl (subst (λ (k : ℕ). get_or levels k None ≡ Some n) e (sym (get_or-take (i + 1) levels v None (omega arith)) ∙ at)))
    (λ other. absurd (let few : length (take (i + 1) levels) ≤ i + 1 = take-few (i + 1) levels in
    let none : get_or (take (i + 1) levels) v None ≡ None = get_or-eq_default (take (i + 1) levels) None (omega arith) in cc))
    (cases_eq v i))
    (cases_lt v i)

-- the depth stays where one more is no deeper
pub depth-kept : (levels : List (Option ℕ)) (i depth : ℕ) → i < length levels → ((n : ℕ) → get_or levels i None ≡ Some n → n < depth)
    → IsDepth (take i levels) depth → IsDepth (take (i + 1) levels) depth
depth-kept levels i depth within no_deeper deep = record {
  below = λ v n at. ⊎_elim (λ e. no_deeper n e) (λ old. deep.below v n old) (at-cases levels i v n within at);
  last = λ n is. let there = deep.last n is in (there.0, at-more levels i there.0 n within there.1);
}

-- and is that of one more where it is deeper
pub depth-more : (levels : List (Option ℕ)) (i depth level : ℕ) → i < length levels → get_or levels i None ≡ Some level → depth ≤ level
    → IsDepth (take i levels) depth → IsDepth (take (i + 1) levels) (level + 1)
depth-more levels i depth level within is deeper deep = record {
  below = λ v n at. ⊎_elim
      (λ e. let same : level ≡ n = some-same level n (sym is ∙ e) in omega arith)
      (λ old. let before = deep.below v n old in omega arith)
      (at-cases levels i v n within at);
  last = λ n is_last. (i, get_or-take (i + 1) levels i None (omega arith) ∙ is ∙ ap (λ (m : ℕ). Some m) (omega arith));
}

-- at first there is no depth
pub depth-none : (levels : List (Option ℕ)) → IsDepth (take 0 levels) 0
depth-none levels = record {
  below = λ v n at. absurd (let none : get_or (take 0 levels) v None ≡ None = get_or-eq_default (take 0 levels) None (take-few 0 levels) in cc);
  last = λ n is. absurd (omega arith);
}

-- a list in place of another one that is as long
pub in_place : (new items : List ℕ) (len : ℕ) → length new ≡ length items → len ≡ length items → take len (new ++ drop (length new) items) ≡ new
in_place new items len long is = grind (arith, common_steps, long, is)
