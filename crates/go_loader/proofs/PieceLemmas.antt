-- Lemmas on the pieces of eight bytes.
use Rattle.std.proofs.Common.{◌≡◌, ℕ, ◌+◌, ◌<◌, ◌≤◌, List, [], ◌∷◌, ◌++◌, length, take, drop, refl, sym, ap, ◌∙◌, arith, Result, Ok, Err, Some}
use Rattle.std.specs.List.{IsSplitAt}
use Rattle.byteorder.specs.Endian.{little_number}
use Rattle.go_text.specs.Steps.{◌>>=◌}
use Rattle.go_text.specs.declared.faults.FaultKind.{FaultKind}
use Rattle.go_word.specs.declared.edge.Edge.{Edge}
use Rattle.go_loader.specs.BinaryFile.{pieces, piece_reads, word_reads}
use Rattle.go_loader.specs.declared.fault.LoadFault.TheVariants.{Line}
use Rattle.go_loader.specs.Reading.{entries_from}
use Rattle.go_loader.proofs.ItemLemmas.{HasRead, read_entry, read_fault}

-- eight bytes in front are the first piece
pub pieces-first : (bytes : List ℕ) → 8 ≤ length bytes → pieces bytes ≡ take 8 bytes ∷ pieces (drop 8 bytes)
pieces-first (a ∷ b ∷ c ∷ d ∷ e ∷ f ∷ g ∷ h ∷ more) long = refl
pieces-first _ long = absurd (omega arith)

-- what is less is the last piece
pub pieces-last : (bytes : List ℕ) → 0 < length bytes → length bytes < 8 → pieces bytes ≡ bytes ∷ []
pieces-last [] some short = absurd (omega arith)
pieces-last (a ∷ []) some short = refl
pieces-last (a ∷ b ∷ []) some short = refl
pieces-last (a ∷ b ∷ c ∷ []) some short = refl
pieces-last (a ∷ b ∷ c ∷ d ∷ []) some short = refl
pieces-last (a ∷ b ∷ c ∷ d ∷ e ∷ []) some short = refl
pieces-last (a ∷ b ∷ c ∷ d ∷ e ∷ f ∷ []) some short = refl
pieces-last (a ∷ b ∷ c ∷ d ∷ e ∷ f ∷ g ∷ []) some short = refl
pieces-last (a ∷ b ∷ c ∷ d ∷ e ∷ f ∷ g ∷ h ∷ more) some short = absurd (omega arith)

-- a split of eight bytes gives the first piece and the others
split_pieces : (rest piece more : List ℕ) → IsSplitAt rest 8 piece more → pieces rest ≡ piece ∷ pieces more
split_pieces rest piece more split =
    pieces-first rest split.0 ∙ ap (λ (l : List ℕ). l ∷ pieces (drop 8 rest)) (sym split.1) ∙ ap (λ (l : List ℕ). piece ∷ pieces l) (sym split.2)

-- a piece of eight bytes reads as its word
whole_piece : (v : ℕ) (piece : List ℕ) → length piece ≡ 8 → (read : Result Edge FaultKind) → word_reads v (little_number 8 piece) ≡ read →
    piece_reads v piece ≡ (read >>= λ edge. Ok (Some edge))
whole_piece v piece eight read reads = rw (eight, reads) refl

-- a word that was read stands behind what was read before it
pub word_read : (v : ℕ) (bytes : List ℕ) (edges : List Edge) (number : ℕ) (rest piece more : List ℕ) (edge : Edge) →
    HasRead (piece_reads v) (pieces bytes) edges number (pieces rest) → IsSplitAt rest 8 piece more →
    word_reads v (little_number 8 piece) ≡ Ok edge → HasRead (piece_reads v) (pieces bytes) (edges ++ edge ∷ []) (number + 1) (pieces more)
word_read v bytes edges number rest piece more edge read split reads =
    read_entry (piece_reads v) (pieces bytes) edges number (pieces rest) (pieces more) piece edge read (split_pieces rest piece more split)
    (whole_piece v piece split.3 (Ok edge) reads)

-- a word with a fault was read
pub word_fault : (v : ℕ) (bytes : List ℕ) (edges : List Edge) (number : ℕ) (rest piece more : List ℕ) (kind : FaultKind) →
    HasRead (piece_reads v) (pieces bytes) edges number (pieces rest) → IsSplitAt rest 8 piece more →
    word_reads v (little_number 8 piece) ≡ Err kind → entries_from (piece_reads v) 1 (pieces bytes) ≡ Err (Line (number + 1) kind)
word_fault v bytes edges number rest piece more kind read split reads =
    read_fault (piece_reads v) (pieces bytes) edges number (pieces rest) (pieces more) piece kind read (split_pieces rest piece more split)
    (whole_piece v piece split.3 (Err kind) reads)
