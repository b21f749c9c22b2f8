-- Lemmas on the words of a chain that are read slice by slice.
use Rattle.std.proofs.Common.{◌≡◌, ℕ, ◌+◌, ◌-◌, ◌≤◌, List, length, take, drop, ap, sym, ◌∙◌, arith, take-add}
use Rattle.std.proofs.lemmas.List.{take-take}
use Rattle.std.proofs.lemmas.List.Sums.{fold-append}
use Rattle.go_net.specs.Net.{net_of, after_word}
use Rattle.go_chunk.specs.WordList.{StandFrom}

-- words that are taken in from a place on are taken in behind the words before it
folded_on : (place more : ℕ) (all base before after : List ℕ) → before ≡ net_of base (take place all) → after ≡ net_of before (take more (drop place all)) →
    after ≡ net_of base (take (place + more) all)
folded_on place more all base before after was is =
    is ∙ ap (λ l. net_of l (take more (drop place all))) was ∙ sym (fold-append after_word base (take place all) (take more (drop place all)))
    ∙ ap (net_of base) (sym (take-add place more all))

-- the first words of a slice are taken in behind those before it
pub folded_slice : (place taken : ℕ) (all words base before after : List ℕ) → StandFrom all place words → taken ≤ length words →
    before ≡ net_of base (take place all) → after ≡ net_of before (take taken words) → after ≡ net_of base (take (place + taken) all)
folded_slice place taken all words base before after h few was is =
    folded_on place taken all base before after was (is ∙ ap (λ l. net_of before (take taken l)) h.there
    ∙ ap (net_of before) (take-take taken (length words) (drop place all) few))

-- and so are all that are left
pub folded_rest : (place count : ℕ) (all rest base before after : List ℕ) → place ≤ count → rest ≡ take (count - place) (drop place all) →
    before ≡ net_of base (take place all) → after ≡ net_of before rest → after ≡ net_of base (take count all)
folded_rest place count all rest base before after within are was is =
    let whole : place + (count - place) ≡ count = omega (arith, within) in
    folded_on place (count - place) all base before after was (is ∙ ap (net_of before) are) ∙ ap (λ k. net_of base (take k all)) whole
