-- Lemmas on the words of a vertex, taken in one by one.
use Rattle.std.proofs.Common.{◌≡◌, ℕ, ◌<◌, ◌+◌, true, false, List, [], ◌∷◌, ◌++◌, length, get_or, refl, arith, take, drop, map, fold}
use Rattle.std.proofs.Common.{ap, sym, ◌∙◌, append_assoc, append-nil, subst}
use Rattle.std.proofs.lemmas.List.{take_more, take-append-drop}
use Rattle.std.proofs.lemmas.Bool.Decides.{nat_tests}
use Rattle.std.proofs.lemmas.Grind.{common_steps, flat_map-append}
use Rattle.std.proofs.lemmas.List.Sums.{fold-append}
use Rattle.std.proofs.lemmas.List.Elements.{All-head, All-tail}
use Rattle.std.specs.Prelude.{All}
use Rattle.go_word.specs.declared.edge.Edge.{Edge}
use Rattle.go_word.specs.Log.{leaves}
use Rattle.go_word.specs.Word.{decode}
use Rattle.go_word.specs.Neighbours.{after_entry, without_first}
use Rattle.go_net.specs.Net.{after_word, net_of}
use Rattle.go_net.specs.Tally.{additions, addition_in, IsTally}

-- one more word at the end is taken in last
pub net_of-push : (base words : List ℕ) (word : ℕ) → net_of base (words ++ word ∷ []) ≡ after_word (net_of base words) word
net_of-push base words word = fold-append after_word base words (word ∷ [])

-- words that are taken in after others are taken in behind them
pub taken_on : (n : ℕ) (base mid new words part : List ℕ) → mid ≡ net_of base (take n words) → part ≡ drop n words → new ≡ net_of mid part →
    new ≡ net_of base words
taken_on n base mid new words part first rest on =
    on ∙ ap (net_of mid) rest ∙ ap (λ l. net_of l (drop n words)) first ∙ sym (fold-append after_word base (take n words) (drop n words))
    ∙ ap (net_of base) (take-append-drop n words)

-- and what it adds comes last
pub additions-push : (words : List ℕ) (word : ℕ) → additions (words ++ word ∷ []) ≡ additions words ++ addition_in word
additions-push words word = flat_map-append addition_in words (word ∷ []) ∙ grind (arith, common_steps)

-- an entry of s does to any list what `after_entry s` says
after_word-of_vertex : (s : ℕ) (before : List ℕ) (word : ℕ) → leaves s (decode word) ≡ true → after_word before word ≡ after_entry s before (decode word)
after_word-of_vertex s before word own = grind (arith, nat_tests)

-- for words of s the neighbours are the fold of s
pub net_of-of_vertex : (s : ℕ) (base words : List ℕ) → All (λ w. leaves s (decode w) ≡ true) words →
    net_of base words ≡ fold (after_entry s) base (map decode words)
net_of-of_vertex s base [] own = refl
net_of-of_vertex s base (word ∷ words) own =
    let first : leaves s (decode word) ≡ true = All-head (λ w. leaves s (decode w) ≡ true) word words own in
    let rest : All (λ w. leaves s (decode w) ≡ true) words = All-tail (λ w. leaves s (decode w) ≡ true) word words own in
    let step : after_word base word ≡ after_entry s base (decode word) = after_word-of_vertex s base word first in
    ap (λ b. net_of b words) step ∙ net_of-of_vertex s (after_entry s base (decode word)) words rest

-- what a word that adds does
after_word-added : (before : List ℕ) (word : ℕ) → (decode word).del ≡ false → after_word before word ≡ before ++ (decode word).dst ∷ []
after_word-added before word adds = grind (arith, nat_tests)

-- what a word that deletes does
after_word-deleted : (before : List ℕ) (word : ℕ) → (decode word).del ≡ true → after_word before word ≡ without_first (decode word).dst before
after_word-deleted before word deletes = grind (arith, nat_tests)

-- a tally goes on with a word that adds
pub IsTally-added : (targets present removed base words : List ℕ) (i : ℕ) (e : Edge) → i < length words → e ≡ decode (get_or words i 0) → e.del ≡ false
    → IsTally targets present removed ((base ++ additions (take i words)) ++ e.dst ∷ []) (net_of base (take i words) ++ e.dst ∷ [])
    → IsTally targets present removed (base ++ additions (take (i + 1) words)) (net_of base (take (i + 1) words))
IsTally-added targets present removed base words i e within is adds tally =
    let word = get_or words i 0 in
    let more : take (i + 1) words ≡ take i words ++ word ∷ [] = take_more words i 0 within in
    let none : (decode word).del ≡ false = subst (λ (x : Edge). x.del ≡ false) is adds in
    let same : (decode word).dst ≡ e.dst = ap (λ (x : Edge). x.dst) (sym is) in
    let one : addition_in word ≡ e.dst ∷ [] = grind (arith, nat_tests) in
    let list : net_of base (take (i + 1) words) ≡ net_of base (take i words) ++ e.dst ∷ [] =
    ap (net_of base) more ∙ net_of-push base (take i words) word ∙ after_word-added (net_of base (take i words)) word none
    ∙ ap (λ d. net_of base (take i words) ++ d ∷ []) same in
    let added : base ++ additions (take (i + 1) words) ≡ (base ++ additions (take i words)) ++ e.dst ∷ [] =
    ap (λ l. base ++ additions l) more ∙ ap (λ l. base ++ l) (additions-push (take i words) word ∙ ap (λ l. additions (take i words) ++ l) one)
    ∙ sym (append_assoc base (additions (take i words)) (e.dst ∷ [])) in
    rw (list, added) tally

-- and with one that deletes
pub IsTally-deleted : (targets present removed base words : List ℕ) (i : ℕ) (e : Edge) → i < length words → e ≡ decode (get_or words i 0) → e.del ≡ true
    → IsTally targets present removed (base ++ additions (take i words)) (without_first e.dst (net_of base (take i words)))
    → IsTally targets present removed (base ++ additions (take (i + 1) words)) (net_of base (take (i + 1) words))
IsTally-deleted targets present removed base words i e within is deletes tally =
    let word = get_or words i 0 in
    let more : take (i + 1) words ≡ take i words ++ word ∷ [] = take_more words i 0 within in
    let some : (decode word).del ≡ true = subst (λ (x : Edge). x.del ≡ true) is deletes in
    let same : (decode word).dst ≡ e.dst = ap (λ (x : Edge). x.dst) (sym is) in
    let none : addition_in word ≡ [] = grind (arith, nat_tests) in
    let list : net_of base (take (i + 1) words) ≡ without_first e.dst (net_of base (take i words)) =
    ap (net_of base) more ∙ net_of-push base (take i words) word ∙ after_word-deleted (net_of base (take i words)) word some
    ∙ ap (λ d. without_first d (net_of base (take i words))) same in
    let added : additions (take (i + 1) words) ≡ additions (take i words) =
    ap additions more ∙ additions-push (take i words) word ∙ ap (λ l. additions (take i words) ++ l) none ∙ append-nil (additions (take i words)) in
    rw (list, added) tally
