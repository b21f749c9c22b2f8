-- The values of a closed table are taken out one after another.
use Rattle.std.proofs.Common.{◌≡◌, ℕ, zero, suc, ◌+◌, ◌<◌, ◌≢◌, Bool, false, List, [], ◌∷◌, ◌++◌, map, length, set, get_or, take, sym, ap, ◌∙◌, ⊎_elim, arith}
use Rattle.std.specs.Prelude.{Some, Option as Maybe}
use Rattle.std.specs.Mem.Slots.Ownership.{Filled}
use Rattle.std.proofs.lemmas.Bool.{cases_eq}
use Rattle.std.proofs.lemmas.List.{map-append, get_or-set_same, get_or-set_other}
use mathlib.Core.Option.{some, some-injective, some-ne-none}
use lib.ListN.{get_elem?}

-- of the values, those before a place are out, and the parts so far, and the others are still in
pub record HasTaken {T : Type 0} (all : List (Maybe T)) (filled : List Bool) (parts : List T) (place count : ℕ) : Type 0 where
  pub out : (k : ℕ) → k < place → get_or filled k false ≡ false
  pub left : Filled filled place count
  pub taken : map Some parts ≡ take place all

-- the first so many and one more
take_next : {A : Type 0} (n : ℕ) (xs : List A) (y : A) → get_elem? xs n ≡ some y → take (suc n) xs ≡ take n xs ++ y ∷ []
take_next n [] y there = absurd (some-ne-none y (sym there))
take_next zero (x ∷ xs) y there = ap (λ z. z ∷ []) (some-injective x y there)
take_next (suc n) (x ∷ xs) y there = ap (λ zs. x ∷ zs) (take_next n xs y there)

pub takes_next : {T : Type 0} (all : List (Maybe T)) (filled : List Bool) (parts : List T) (place count : ℕ) (x : T) → place < length filled
    → get_elem? all place ≡ some (Some x) → HasTaken all filled parts place count
    → HasTaken all (set filled place false) (parts ++ x ∷ []) (place + 1) count
takes_next all filled parts place count x within there h =
    record {
      out = λ k less.
          ⊎_elim (λ (here : k ≡ place). ap (λ n. get_or (set filled place false) n false) here ∙ get_or-set_same filled place false false within)
          (λ (ne : k ≢ place). get_or-set_other filled place k false false ne ∙ h.out k (omega arith)) (cases_eq k place);
      left = λ k from to. get_or-set_other filled place k false false (λ e. omega arith) ∙ h.left k (omega arith) to;
      taken = map-append Some parts (x ∷ []) ∙ ap (λ ys. ys ++ Some x ∷ []) h.taken
          ∙ sym (ap (λ n. take n all) (more place) ∙ take_next place all (Some x) there);
    }
  where
    more : (n : ℕ) → n + 1 ≡ suc n
    more n = omega arith
