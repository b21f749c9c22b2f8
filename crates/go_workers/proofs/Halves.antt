-- On splits: what the splits of two halves come to, joined list by list.
use Rattle.std.proofs.Common.{◌≡◌, ◌≢◌, ℕ, ◌+◌, ◌<◌, ◌≤◌, List, [], ◌∷◌, ◌++◌, map, length, set, get_or, filter, append_assoc, sym, ap, ◌∙◌, ⊎_elim, arith}
use Rattle.std.proofs.Common.{length-set, get_or-set_other}
use Rattle.std.specs.Prelude.{◌-◌, ◌*◌, ◌/◌, ◌%◌}
use Rattle.std.proofs.lemmas.Bool.{cases_lt}
use Rattle.std.proofs.lemmas.Nat.{div-add-mod'}
use Rattle.std.proofs.lemmas.Grind.{get_or-set_at}
use Rattle.std.proofs.lemmas.List.Elements.{filter-append}
use Rattle.go_word.specs.declared.edge.Edge.{Edge}
use Rattle.go_shard.specs.Split.{is_of_shard, IsSplit}

-- the first so many lists of one half have those of the other behind them
pub record AreJoined (k : ℕ) (one two now : List (List Edge)) : Type 0 where
  pub count : length now ≡ length one
  pub done : (i : ℕ) → i < k → get_or now i [] ≡ get_or one i [] ++ get_or two i []
  pub left : (i : ℕ) → k ≤ i → get_or now i [] ≡ get_or one i []

-- one more
pub joined_next : (k : ℕ) (one two now after : List (List Edge)) (list : List Edge) → k < length now → list ≡ get_or now k [] ++ get_or two k []
    → after ≡ set now k list → AreJoined k one two now → AreJoined (k + 1) one two after
joined_next k one two now after list within joined put so_far = record {
  count = ap length put ∙ length-set now k list ∙ so_far.count;
  done = λ i less. ap (λ xs. get_or xs i []) put ∙ here i less;
  left = λ i past.
      (let other : i ≢ k = λ same. omega arith in
      ap (λ xs. get_or xs i []) put ∙ get_or-set_other now k i list [] other ∙ so_far.left i (omega arith));
} where
  here : (i : ℕ) → i < k + 1 → get_or (set now k list) i [] ≡ get_or one i [] ++ get_or two i []
  here i less =
      ⊎_elim
      (λ (before : i < k). let other : i ≢ k = λ same. omega arith in get_or-set_other now k i list [] other ∙ so_far.done i before)
      (λ (from : k ≤ i).
      let same : i ≡ k = omega arith in
      get_or-set_at now k i list [] same within ∙ joined
      ∙ ap (λ xs. xs ++ get_or two k []) (so_far.left k (omega arith))
      ∙ ap (λ n. get_or one n [] ++ get_or two n []) (sym same)) (cases_lt i k)

-- all of them
pub halves_split : (shards : ℕ) (edges front back : List Edge) (one two lists : List (List Edge)) → edges ≡ front ++ back → IsSplit shards front one
    → IsSplit shards back two → length lists ≡ shards
    → ((i : ℕ) → i < shards → get_or lists i [] ≡ get_or one i [] ++ get_or two i []) → IsSplit shards edges lists
halves_split shards edges front back one two lists are first second count each = record {
  so_many = count;
  each = λ i below.
      each i below ∙ ap (λ xs. xs ++ get_or two i []) (first.each i below) ∙ ap (λ xs. filter (is_of_shard shards i) front ++ xs) (second.each i below)
      ∙ sym (filter-append (is_of_shard shards i) front back) ∙ ap (filter (is_of_shard shards i)) (sym are);
}

-- lists that are handed out one after another
pub handed_next : {A B : Type 0} (f : A → B) (out after : List B) (x : A) (rest : List A) (y : B) (all : List B) → out ++ map f (x ∷ rest) ≡ all
    → after ≡ out ++ y ∷ [] → y ≡ f x → after ++ map f rest ≡ all
handed_next f out after x rest y all so_far put is =
    ap (λ zs. zs ++ map f rest) put ∙ append_assoc out (y ∷ []) (map f rest) ∙ ap (λ z. out ++ z ∷ map f rest) is ∙ so_far

-- what is left of a number behind as many wholes as fit
pub rest_of : (v shards place : ℕ) → place ≡ v / shards → (place * shards ≤ v) × (v - place * shards ≡ v % shards)
rest_of v shards place is =
    let all : place * shards + v % shards ≡ v = ap (λ q. q * shards + v % shards) is ∙ div-add-mod' v shards in
    (omega arith, omega arith)
