-- The levels of a graph are full: what a vertex is reached from is one level before it.
use Rattle.std.proofs.Common.{◌≡◌, ℕ, suc, ◌+◌, ◌<◌, ◌≤◌, List, length, get_or, refl, sym, ◌∙◌, ap, subst, arith, ⊎_elim}
use Rattle.std.proofs.lemmas.Bool.{cases_lt}
use Rattle.std.proofs.Math.ListN.{get_or-eq_default}
use Rattle.std.specs.Prelude.{All, Option, Some, None}
use Rattle.go_word.specs.declared.edge.Edge.{Edge}
use Rattle.go_word.specs.Log.{IsWithin}
use Rattle.go_model.specs.Levels.{Walk, Leads, IsLeast, IsLevel, AreLevels}
use Rattle.go_model.specs.Counts.{IsFull}
use Rattle.go_model.proofs.WithinLemmas.{Walk-below}

-- a vertex that a walk reaches by one edge less than the least to a neighbour has just that level
level-before : (log : List Edge) (r c v n : ℕ) (o : Option ℕ) → IsLevel log r c o → Walk log r c n → Leads log c v → IsLeast log r v (suc n) → o ≡ Some n
level-before log r c v n None level walk leads least = absurd (level n walk)
level-before log r c v n (Some k) level walk leads least =
    let most : k ≤ n = level.least n walk in
    let fewest : suc n ≤ suc k = least.least (suc k) (c, level.walk, leads) in
    ap (λ (m : ℕ). Some m) (omega arith)

-- where a level is reached, so is the one before it
pub AreLevels-full : (log : List Edge) (size r : ℕ) (levels : List (Option ℕ)) → All (IsWithin size) log → r < size → AreLevels log size r levels →
    IsFull levels
AreLevels-full log size r levels ids root are v n at = ⊎_elim
    (λ inside.
    let level : IsLevel log r v (get_or levels v None) = are.each v inside in
    let least : IsLeast log r v (suc n) = subst (λ (o : Option ℕ). IsLevel log r v o) (at ∙ ap (λ (m : ℕ). Some m) (omega arith)) level in
    let c : ℕ = least.walk.0 in
    let below : c < size = Walk-below size log r c n ids root least.walk.1 in
    (c, level-before log r c v n (get_or levels c None) (are.each c below) least.walk.1 least.walk.2 least))
    (λ outside. absurd (let all = are.all in let none : get_or levels v None ≡ None = get_or-eq_default levels None (omega arith) in cc))
    (cases_lt v size)
