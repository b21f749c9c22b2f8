-- Lemmas on words that only add, and on a lane that takes its part.
use Rattle.std.proofs.Common.{◌≡◌, ℕ, List, [], ◌∷◌, ◌++◌, length, All, refl, sym, ap, ◌∙◌, arith, append_assoc, append-nil, length-append}
use Rattle.std.proofs.lemmas.Bool.Decides.{nat_tests}
use Rattle.std.proofs.lemmas.List.Elements.{All-head, All-tail}
use Rattle.go_word.specs.Word.{decode}
use Rattle.go_net.specs.Net.{after_word, net_of}
use Rattle.go_shard.specs.Compacting.{AddsOne}

-- an addition comes behind what there was
added-one : (base : List ℕ) (word : ℕ) → AddsOne word → after_word base word ≡ base ++ (decode word).dst ∷ []
added-one base word adds = rw adds.no_deletion (grind (arith, nat_tests))

-- and so do some of them
pub added-behind : (base words : List ℕ) → All AddsOne words → net_of base words ≡ base ++ net_of [] words
added-behind base [] adds = sym (append-nil base)
added-behind base (w ∷ ws) adds =
    let one : AddsOne w = All-head AddsOne w ws adds in
    let rest : All AddsOne ws = All-tail AddsOne w ws adds in
    let d : List ℕ = (decode w).dst ∷ [] in
    let here : net_of base (w ∷ ws) ≡ net_of (base ++ d) ws = ap (λ (l : List ℕ). net_of l ws) (added-one base w one) in
    let alone : net_of [] (w ∷ ws) ≡ net_of d ws = ap (λ (l : List ℕ). net_of l ws) (added-one [] w one) in
    here ∙ added-behind (base ++ d) ws rest ∙ append_assoc base d (net_of [] ws)
    ∙ ap (λ (l : List ℕ). base ++ l) (sym (alone ∙ added-behind d ws rest))

-- each brings one
pub added-count : (words : List ℕ) → All AddsOne words → length (net_of [] words) ≡ length words
added-count [] adds = refl
added-count (w ∷ ws) adds =
    let one : AddsOne w = All-head AddsOne w ws adds in
    let rest : All AddsOne ws = All-tail AddsOne w ws adds in
    let d : List ℕ = (decode w).dst ∷ [] in
    let alone : net_of [] (w ∷ ws) ≡ d ++ net_of [] ws = ap (λ (l : List ℕ). net_of l ws) (added-one [] w one) ∙ added-behind d ws rest in
    omega (arith, ap length alone, length-append d (net_of [] ws), added-count ws rest)
