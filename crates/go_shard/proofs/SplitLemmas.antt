-- Lemmas on splits: one more entry.
use Rattle.std.proofs.Common.{◌≡◌, ◌≢◌, ℕ, ◌+◌, ◌<◌, ◌≤◌, ◌%◌, true, false, List, [], ◌∷◌, ◌++◌, length, take, set, get_or, Vec, Global, refl, sym, ap, ◌∙◌}
use Rattle.std.proofs.Common.{subst, arith, inl, inr, append-nil, filter, length-set, get_or-set_other}
use Rattle.std.proofs.lemmas.Bool.Decides.{nat_tests, eqb_tells}
use Rattle.std.proofs.lemmas.Grind.{get_or-set_at}
use Rattle.std.proofs.lemmas.List.Elements.{filter_more}
use Rattle.go_word.specs.declared.edge.Edge.{Edge}
use Rattle.go_shard.specs.Split.{is_of_shard, IsSplit}

-- the list of a shard with one more entry, which is its own or another's
each_push : (shards i k : ℕ) (edges : List Edge) (lists : List (List Edge)) (d : Edge) → k < length edges → i < shards →
    (get_or edges k d).src % shards < length lists
    → get_or lists i [] ≡ filter (is_of_shard shards i) (take k edges)
    → get_or (set lists ((get_or edges k d).src % shards) (get_or lists ((get_or edges k d).src % shards) [] ++ get_or edges k d ∷ [])) i []
    ≡ filter (is_of_shard shards i) (take (k + 1) edges)
each_push shards i k edges lists d within below inside was =
    let e = get_or edges k d in
    let place = e.src % shards in
    let more = filter_more (is_of_shard shards i) edges k d within in
    elim (eqb_tells place i) [
      | inl h ↦
          let own : is_of_shard shards i e ≡ true = grind (arith, nat_tests, h.1) in
          let here : i ≡ place = sym h.1 in
          get_or-set_at lists place i (get_or lists place [] ++ e ∷ []) [] here inside ∙ ap (λ (n : ℕ). get_or lists n [] ++ e ∷ []) h.1
          ∙ ap (λ l. l ++ e ∷ []) was ∙ sym (more ∙ (rw own refl))
      | inr h ↦
          let another : is_of_shard shards i e ≡ false = grind (arith, nat_tests, h.1) in
          let other : i ≢ place = λ same. h.1 (sym same) in
          get_or-set_other lists place i (get_or lists place [] ++ e ∷ []) [] other ∙ was
          ∙ sym (more ∙ (rw another (append-nil (filter (is_of_shard shards i) (take k edges)))))
    ]

-- one more entry, at the end of the list of its shard
pub IsSplit_push : (shards k : ℕ) (edges : List Edge) (lists grown : List (List Edge)) (list : List Edge) (d : Edge) → 1 ≤ shards → k < length edges →
    IsSplit shards (take k edges) lists
    → list ≡ get_or lists ((get_or edges k d).src % shards) [] ++ get_or edges k d ∷ [] → grown ≡ set lists ((get_or edges k d).src % shards) list
    → IsSplit shards (take (k + 1) edges) grown
IsSplit_push shards k edges lists grown list d some within split pushed written =
    let place = (get_or edges k d).src % shards in
    let inside : place < length lists = subst (λ (n : ℕ). place < n) (sym split.so_many) (omega arith) in
    let whole : grown ≡ set lists place (get_or lists place [] ++ get_or edges k d ∷ []) = written ∙ ap (set lists place) pushed in
    record {
      so_many = ap length whole ∙ length-set lists place (get_or lists place [] ++ get_or edges k d ∷ []) ∙ split.so_many;
      each = λ i below. rw whole (each_push shards i k edges lists d within below inside (split.each i below));
    }

-- the entries of a list as it is in memory
abbrev pub items_of : Vec Edge Global → List Edge
items_of list = list.items
