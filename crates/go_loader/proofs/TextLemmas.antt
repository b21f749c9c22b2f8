-- Lemmas on lines of a text: the first five words judge them.
use Rattle.std.proofs.Common.{◌≡◌, ℕ, ◌-◌, Bool, true, false, List, [], ◌∷◌, length, take, drop, refl, sym, ap, ◌∙◌, None, Some, Ok, Err, Result}
use Rattle.std.specs.Prelude.{◌==◌, if◌then◌else◌, nat_lt, slice_index}
use Rattle.go_text.specs.Steps.{◌>>=◌}
use Rattle.go_text.specs.declared.faults.FaultKind.{FaultKind}
use Rattle.go_text.specs.declared.faults.FaultKind.TheVariants.{Count}
use Rattle.go_word.specs.declared.edge.Edge.{Edge}
use Rattle.go_text.specs.declared.line.Line.{Line}
use Rattle.go_loader.specs.TextFile.{entry_of, words_read}

-- behind a mark there are too many words
too_many : (v : ℕ) (inner : Bool) (first b c d e : List ℕ) (more : List (List ℕ)) →
    entry_of v true (if inner then first ∷ b ∷ c ∷ d ∷ e ∷ more else b ∷ c ∷ d ∷ e ∷ more) ≡ Err Count
too_many v true first b c d e more = refl
too_many v false first b c d e more = refl

-- a line is judged by its first five words
pub words_read-take : (v : ℕ) (words : List (List ℕ)) → words_read v (take 5 words) ≡ words_read v words
words_read-take v [] = refl
words_read-take v (a ∷ []) = refl
words_read-take v (a ∷ b ∷ []) = refl
words_read-take v (a ∷ b ∷ c ∷ []) = refl
words_read-take v (a ∷ b ∷ c ∷ d ∷ []) = refl
words_read-take v (a ∷ b ∷ c ∷ d ∷ e ∷ more) =
    let inner : Bool = nat_lt 1 (length a) in
    ap (λ (read : Result Edge FaultKind).
    if slice_index a 0 == 35 then Ok None else ((if slice_index a 0 == 45 then read else Err Count) >>= λ edge. Ok (Some edge)))
    (too_many v inner (drop 1 a) b c d e [] ∙ sym (too_many v inner (drop 1 a) b c d e more))

-- the bytes of a line
abbrev pub bytes_of : List ℕ → Line → List ℕ
bytes_of text line = take (line.stop - line.start) (drop line.start text)
