-- Lemmas on how many entries commands may put.
use Rattle.std.proofs.Common.{◌≡◌, ℕ, ◌+◌, ◌-◌, ◌^◌, ◌<◌, ◌≤◌, List, [], ◌∷◌, length, drop, slice_get, get_or, map, Some, refl, sym, ap, ◌∙◌, arith}
use Rattle.std.proofs.Common.{length-append}
use Rattle.std.specs.Prelude.{min}
use Rattle.std.proofs.lemmas.List.{get_or_read, drop-map, drop_all}
use Rattle.std.proofs.lemmas.Option.{slice_get-get_or}
use Rattle.go_word.specs.declared.edge.Edge.{Edge}
use Rattle.go_session.specs.Asked.{Asked, lists_of, may_put}
use Rattle.go_session.proofs.ListLemmas.{drop_next}

-- the list that comes next is the one of the next number
pub lists_next : (loads : List (List Edge)) (numbers : List ℕ) (loaded : ℕ) (list : List Edge) → loaded < length numbers →
    get_or numbers loaded 0 < length loads → list ≡ get_or loads (get_or numbers loaded 0) list →
    drop loaded (lists_of loads numbers) ≡ list ∷ drop (loaded + 1) (lists_of loads numbers)
lists_next loads numbers loaded list there within here =
    let number = get_or numbers loaded 0 in
    let f = λ (n : ℕ). get_or loads n [] in
    let next : drop loaded numbers ≡ number ∷ drop (loaded + 1) numbers = drop_next numbers loaded number (slice_get-get_or numbers loaded 0 there) in
    let same : list ≡ get_or loads number [] = get_or_read loads number list within here [] in
    drop-map f loaded numbers ∙ ap (λ (l : List ℕ). map f l) next
    ∙ ap (λ (x : List Edge). x ∷ map f (drop (loaded + 1) numbers)) (sym same)
    ∙ ap (λ (l : List (List Edge)). list ∷ l) (sym (drop-map f (loaded + 1) numbers))

-- so many were counted of what commands may put, up to one of them, or as many as a number holds
pub record CountsOn (asked : List Asked) (from at count : ℕ) : Type 0 where
  pub done : ℕ
  pub so_far : done + length (may_put (drop at asked)) ≡ length (may_put (drop from asked))
  pub is : count ≡ min done (2 ^ 64 - 1)

pub counts_none : (asked : List Asked) (from : ℕ) → CountsOn asked from from 0
counts_none asked from = record { done = 0; so_far = omega arith; is = refl }

pub counts_more : (asked : List Asked) (from at count more next : ℕ) (a : Asked) → CountsOn asked from at count → slice_get asked at ≡ Some a →
    more ≡ length a.entries → next ≡ min (count + more) (2 ^ 64 - 1) → CountsOn asked from (at + 1) next
counts_more asked from at count more next a on here is then =
    let rest = drop (at + 1) asked in
    let split : length (may_put (drop at asked)) ≡ length a.entries + length (may_put rest) =
    ap (λ (l : List Asked). length (may_put l)) (drop_next asked at a here) ∙ length-append a.entries (may_put rest) in
    record {
      done = on.done + more;
      so_far = omega (arith, split, is, on.so_far);
      is = sat on.done count more next on.is then;
    } where
      sat : (done count more next : ℕ) → count ≡ min done (2 ^ 64 - 1) → next ≡ min (count + more) (2 ^ 64 - 1) → next ≡ min (done + more) (2 ^ 64 - 1)
      sat done count more next was is = omega (arith, was, is)

pub counts_all : (asked : List Asked) (from at count : ℕ) → CountsOn asked from at count → length asked ≤ at →
    count ≡ min (length (may_put (drop from asked))) (2 ^ 64 - 1)
counts_all asked from at count on all =
    let none : length (may_put (drop at asked)) ≡ 0 = ap (λ (l : List Asked). length (may_put l)) (drop_all at asked all) in
    let same : on.done ≡ length (may_put (drop from asked)) = omega (arith, none, on.so_far) in
    on.is ∙ ap (λ (n : ℕ). min n (2 ^ 64 - 1)) same
