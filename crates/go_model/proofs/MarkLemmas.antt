-- What marking makes of a list of levels.
use Rattle.std.proofs.Common.{◌≡◌, ◌≢◌, ℕ, ◌+◌, ◌<◌, ◌⊎◌, inl, inr, true, false, List, [], ◌∷◌}
use Rattle.std.proofs.Common.{◌++◌, length, get_or, set, fold, refl, sym, ◌∙◌, ap, subst, arith, length-set, ⊎_elim}
use Rattle.std.proofs.lemmas.List.{get_or-set_same, get_or-set_other, get_or_past}
use Rattle.std.proofs.lemmas.Bool.{cases_eq, cases_lt}
use Rattle.std.proofs.lemmas.List.Sums.{sum_by-set}
use Rattle.std.proofs.lemmas.List.Elements.{Contains-push, Contains-push_cases, Contains-append_left}
use Rattle.std.proofs.lemmas.Bool.Decides.{nat_tests}
use Rattle.std.specs.Option.{option_eq}
use Rattle.std.specs.Prelude.{eqb, Contains, Option, Some, None, is_none, if◌then◌else◌}
use Rattle.go_model.proofs.MemberLemmas.{Contains-first, Contains-later, Contains-which, Contains-none}
use Rattle.go_word.specs.declared.edge.Edge.{Edge}
use Rattle.go_word.specs.Neighbours.{neighbours}
use Rattle.go_model.specs.Search.{mark, mark_from, spread, unmarked, IsFrontBelow}

-- an option has a value, or none
pub known_or_not : (o : Option ℕ) → (o ≡ None) ⊎ ((n : ℕ) × (o ≡ Some n))
known_or_not None = inl refl
known_or_not (Some n) = inr (n, refl)

-- what was reached and had no level has the given one; all others are as they were
pub record Marks (level : ℕ) (R : ℕ → Type 0) (before after : List (Option ℕ)) : Type 0 where
  pub long : length after ≡ length before
  pub kept : (v m : ℕ) → get_or before v None ≡ Some m → get_or after v None ≡ Some m
  pub gives : (v m : ℕ) → get_or after v None ≡ Some m → (get_or before v None ≡ Some m) ⊎ ((get_or before v None ≡ None) × (m ≡ level) × R v)
  pub none : (v : ℕ) → v < length before → get_or after v None ≡ None → (get_or before v None ≡ None) × (R v → ⊥)

-- one mark
mark-some : (level : ℕ) (levels : List (Option ℕ)) (b m : ℕ) → get_or levels b None ≡ Some m → mark level levels b ≡ levels
mark-some level levels b m has = rw has refl

mark-none : (level : ℕ) (levels : List (Option ℕ)) (b : ℕ) → get_or levels b None ≡ None → mark level levels b ≡ set levels b (Some level)
mark-none level levels b has = rw has refl

-- what stands at the place of a mark is the given level
marked-here : (level : ℕ) (levels : List (Option ℕ)) (b m : ℕ) → get_or (set levels b (Some level)) b None ≡ Some m → m ≡ level
marked-here level levels b m known = ⊎_elim
    (λ within. let at : get_or (set levels b (Some level)) b None ≡ Some level = get_or-set_same levels b (Some level) None within in cc)
    (λ past. absurd (let long : length (set levels b (Some level)) ≡ length levels = length-set levels b (Some level) in
    let at : get_or (set levels b (Some level)) b None ≡ None = get_or_past (set levels b (Some level)) b None (omega arith) in cc))
    (cases_lt b (length levels))

-- a vertex without a level gets the given one
mark-unmarked : (level : ℕ) (levels : List (Option ℕ)) (b : ℕ) → get_or levels b None ≡ None → Marks level (λ v. b ≡ v) levels (set levels b (Some level))
mark-unmarked level levels b has = record {
  long = length-set levels b (Some level);
  kept = λ v m known.
      let other : v ≢ b = λ e. absurd (let same : get_or levels v None ≡ get_or levels b None = ap (λ k. get_or levels k None) e in cc) in
      get_or-set_other levels b v (Some level) None other ∙ known;
  gives = λ v m known. ⊎_elim
      (λ e. inr (
        ap (λ k. get_or levels k None) e ∙ has,
        marked-here level levels b m (subst (λ (k : ℕ). get_or (set levels b (Some level)) k None ≡ Some m) e known),
        sym e,
      ))
      (λ other. inl (sym (get_or-set_other levels b v (Some level) None other) ∙ known))
      (cases_eq v b);
  none = λ v within unknown. ⊎_elim
      (λ e. absurd (let at : get_or (set levels b (Some level)) v None ≡ Some level =
      ap (λ k. get_or (set levels b (Some level)) k None) e ∙ get_or-set_same levels b (Some level) None (subst (λ (k : ℕ). k < length levels) e within) in cc))
      (λ other. (sym (get_or-set_other levels b v (Some level) None other) ∙ unknown, λ e. other (sym e)))
      (cases_eq v b);
}

-- a mark is that of its vertex
pub Marks-mark : (level : ℕ) (levels : List (Option ℕ)) (b : ℕ) → Marks level (λ v. b ≡ v) levels (mark level levels b)
Marks-mark level levels b = ⊎_elim
    (λ has. subst (λ (l : List (Option ℕ)). Marks level (λ v. b ≡ v) levels l) (sym (mark-none level levels b has)) (mark-unmarked level levels b has))
    (λ (m, has). subst (λ (l : List (Option ℕ)). Marks level (λ v. b ≡ v) levels l) (sym (mark-some level levels b m has)) (record {
      long = refl;
      kept = λ v n known. known;
      gives = λ v n known. inl known;
      none = λ v within unknown. (unknown, λ e. let same : get_or levels b None ≡ get_or levels v None = ap (λ k. get_or levels k None) e in cc);
    }))
    (known_or_not (get_or levels b None))

-- what has no level after marks had none before
unmarked-before : (level : ℕ) (R : ℕ → Type 0) (before after : List (Option ℕ)) → Marks level R before after → (v : ℕ) → get_or after v None ≡ None →
    get_or before v None ≡ None
unmarked-before level R before after marks v none = ⊎_elim
    (λ was. was)
    (λ (m, has). absurd (let now : get_or after v None ≡ Some m = marks.kept v m has in cc))
    (known_or_not (get_or before v None))

-- marks one after another
pub Marks-then : (level : ℕ) (R Q : ℕ → Type 0) (one two three : List (Option ℕ)) → Marks level R one two → Marks level Q two three →
    Marks level (λ v. R v ⊎ Q v) one three
Marks-then level R Q one two three first later = record {
  long = later.long ∙ first.long;
  kept = λ v m known. later.kept v m (first.kept v m known);
  gives = λ v m known. ⊎_elim
      (λ before. ⊎_elim (λ old. inl old) (λ new. inr (new.0, new.1, inl new.2)) (first.gives v m before))
      (λ new. inr (unmarked-before level R one two first v new.0, new.1, inr new.2))
      (later.gives v m known);
  none = λ v within unknown.
      let after = later.none v (subst (λ (n : ℕ). v < n) (sym first.long) within) unknown in
      let before = first.none v within after.0 in
      (before.0, ⊎_elim before.1 after.1);
}

-- the same vertices in other words
pub Marks-same : (level : ℕ) (R Q : ℕ → Type 0) (before after : List (Option ℕ)) → ((v : ℕ) → R v → Q v) → ((v : ℕ) → Q v → R v) →
    Marks level R before after → Marks level Q before after
Marks-same level R Q before after there back marks = record {
  long = marks.long;
  kept = marks.kept;
  gives = λ v m known. ⊎_elim (λ old. inl old) (λ new. inr (new.0, new.1, there v new.2)) (marks.gives v m known);
  none = λ v within unknown. let was = marks.none v within unknown in (was.0, λ q. was.1 (back v q));
}

-- where each step of a fold marks what it reaches, the fold marks what one of them reaches
pub Marks-fold : (level : ℕ) (R : ℕ → ℕ → Type 0) (f : List (Option ℕ) → ℕ → List (Option ℕ))
    → ((levels : List (Option ℕ)) (a : ℕ) → Marks level (R a) levels (f levels a))
    → (levels : List (Option ℕ)) (xs : List ℕ) → Marks level (λ v. (a : ℕ) × Contains xs a × R a v) levels (fold f levels xs)
Marks-fold level R f step levels [] = record {
  long = refl;
  kept = λ v m known. known;
  gives = λ v m known. inl known;
  none = λ v within unknown. (unknown, λ reached. Contains-none reached.0 reached.1);
}
Marks-fold level R f step levels (x ∷ xs) =
    Marks-same level (λ v. R x v ⊎ ((a : ℕ) × Contains xs a × R a v)) (λ v. (a : ℕ) × Contains (x ∷ xs) a × R a v) levels (fold f (f levels x) xs)
    (λ v. ⊎_elim (λ now. (x, Contains-first x xs, now)) (λ later. (later.0, Contains-later x xs later.0 later.1, later.2)))
    (λ v reached. ⊎_elim
    (λ e. inl (subst (λ (a : ℕ). R a v) (sym e) reached.2))
    (λ among. inr (reached.0, among, reached.2))
    (Contains-which x xs reached.0 reached.1))
    (Marks-then level (R x) (λ v. (a : ℕ) × Contains xs a × R a v) levels (f levels x) (fold f (f levels x) xs) (step levels x)
    (Marks-fold level R f step (f levels x) xs))

-- a spread marks what an edge from the front leads to
pub Marks-spread : (log : List Edge) (level : ℕ) (levels : List (Option ℕ)) (front : List ℕ) →
    Marks level (λ v. (a : ℕ) × Contains front a × Contains (neighbours log a) v) levels (spread log level levels front)
Marks-spread log level levels front = Marks-fold level (λ a v. Contains (neighbours log a) v) (mark_from log level) (λ from a.
    Marks-same level (λ v. (b : ℕ) × Contains (neighbours log a) b × (b ≡ v)) (λ v. Contains (neighbours log a) v) from (mark_from log level from a)
    (λ v reached. subst (λ (b : ℕ). Contains (neighbours log a) b) reached.2 reached.1)
    (λ v leads. (v, leads, refl))
    (Marks-fold level (λ b v. b ≡ v) (mark level) (Marks-mark level) from (neighbours log a))) levels front

-- what has no level counts as unmarked
none_counts : (o : Option ℕ) (one other : ℕ) → o ≡ None → (if is_none o then one else other) ≡ one
none_counts o one other has = rw has refl

-- a mark of a vertex without a level leaves one unmarked vertex less
pub unmarked-set : (level : ℕ) (levels : List (Option ℕ)) (b : ℕ) → b < length levels → get_or levels b None ≡ None →
    unmarked (set levels b (Some level)) + 1 ≡ unmarked levels
unmarked-set level levels b within has =
    let sums = sum_by-set (λ o. if is_none o then 1 else 0) levels b (Some level) None within in
    let one = none_counts (get_or levels b None) 1 0 has in
    omega (arith, sums, one)

-- a vertex at the level comes behind those before it
pub IsFrontBelow-push : (levels : List (Option ℕ)) (level v : ℕ) (front : List ℕ) → IsFrontBelow levels level v front → get_or levels v None ≡ Some level →
    IsFrontBelow levels level (v + 1) (front ++ v ∷ [])
IsFrontBelow-push levels level v front so_far at = record {
  within = λ u among. ⊎_elim (λ before. let b = so_far.within u before in omega arith) (λ e. let is = e in omega arith) (Contains-push_cases front v u among);
  there = λ u among. ⊎_elim
      (λ before. so_far.there u before)
      (λ e. subst (λ (k : ℕ). get_or levels k None ≡ Some level) e at) (Contains-push_cases front v u among);
  all = λ u below here. ⊎_elim
      (λ e. subst (λ (k : ℕ). Contains (front ++ v ∷ []) k) (sym e) (Contains-push front v))
      (λ other. Contains-append_left front (v ∷ []) u (so_far.all u (omega arith) here))
      (cases_eq u v);
}

-- another vertex is left out
pub IsFrontBelow-skip : (levels : List (Option ℕ)) (level v : ℕ) (front : List ℕ) → IsFrontBelow levels level v front → get_or levels v None ≢ Some level →
    IsFrontBelow levels level (v + 1) front
IsFrontBelow-skip levels level v front so_far off = record {
  within = λ u among. let b = so_far.within u among in omega arith;
  there = so_far.there;
  all = λ u below here. ⊎_elim
      (λ e. absurd (off (subst (λ (k : ℕ). get_or levels k None ≡ Some level) e here)))
      (λ other. so_far.all u (omega arith) here)
      (cases_eq u v);
}

-- what a test for a level tells
pub is_at : (o : Option ℕ) (n : ℕ) → option_eq eqb o (Some n) ≡ true → o ≡ Some n
is_at None n e = absurd (cc)
is_at (Some m) n e = let same : m ≡ n = grind (arith, nat_tests) in rw same refl

pub is_off : (o : Option ℕ) (n : ℕ) → option_eq eqb o (Some n) ≡ false → o ≢ Some n
is_off o n e is = let same : option_eq eqb (Some n) (Some n) ≡ false = subst (λ (p : Option ℕ). option_eq eqb p (Some n) ≡ false) is e in
    let other : eqb n n ≡ false = same in grind (arith, nat_tests)
