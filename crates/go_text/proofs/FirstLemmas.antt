-- Lemmas on the first words of a line.
use Rattle.std.proofs.Common.{◌≡◌, ℕ, ◌+◌, ◌-◌, ◌<◌, List, [], ◌∷◌, ◌++◌, length, set, take, ap, ◌∙◌, arith, append_assoc, suc}
use Rattle.std.specs.Borrow.{Bor}
use Rattle.std.proofs.lemmas.List.{take_more_set, map-append}
use Rattle.go_text.specs.Texts.{texts}

-- one more word is kept
pub texts_more : (kept : List (Bor (List ℕ))) (len : ℕ) (word : Bor (List ℕ)) (more : List (List ℕ)) → len < 5 → length kept ≡ 5 →
    texts (take (len + 1) (set kept len word)) ++ take (5 - (len + 1)) more ≡ texts (take len kept) ++ take (5 - len) (word.now ∷ more)
texts_more kept len word more below five =
    let inside : len < length kept = omega arith in
    let room : 5 - len ≡ suc (5 - (len + 1)) = omega arith in
    rw (take_more_set kept len word, room) (ap (λ (l : List (List ℕ)). l
    ++ take (5 - (len + 1)) more) (map-append (λ (w : Bor (List ℕ)). w.now) (take len kept) (word ∷ []))
    ∙ append_assoc (texts (take len kept)) (word.now ∷ []) (take (5 - (len + 1)) more))
