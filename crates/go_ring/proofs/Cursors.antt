-- Positions that follow one another along a lap: their words lie side by side, and are rotated alike.
use Rattle.std.proofs.Common.{◌≡◌, ℕ, zero, suc, ◌+◌, ◌-◌, ◌*◌, ◌/◌, ◌%◌, ◌<◌, sym, refl, ap, ◌∙◌, arith}
use Rattle.std.specs.Prelude.{◌==◌}
use mathlib.Core.Bool.{beq}
use Rattle.std.proofs.Math.Nat.{mod-add-div', mod-lt}
use Rattle.std.proofs.lemmas.Nat.{mod-mul-add, div-mul-add}
use Rattle.go_word.specs.declared.edge.Edge.{Edge}
use Rattle.go_word.specs.Word.{IsStorable, rotation, rotation_of, plain_word, word, is_matched}
use Rattle.go_word.proofs.WordLaws.{rotation_of-word}
use Rattle.go_core.specs.Frame.{Frame}
use Rattle.go_rule.specs.declared.layout.Key.{Key}
use Rattle.go_rule.specs.Views.{frame_of}
use Rattle.go_ring.specs.declared.cursor.Cursor.{Cursor}
use Rattle.go_ring.specs.Cursors.{IsCursorAt, no_edge}

-- a number and one more, by its parts
one_more : (p q r : ℕ) → r + q ≡ p → p + 1 ≡ q + (r + 1)
one_more p q r is = omega arith

-- along a lap the remainder rises by one, and the quotient stays
mod_next : (n p : ℕ) → p % n + 1 < n → (p + 1) % n ≡ p % n + 1
mod_next n p less =
    ap (λ k. k % n) (one_more p (p / n * n) (p % n) (mod-add-div' p n)) ∙ mod-mul-add (p / n) n (p % n + 1) less

div_next : (n p : ℕ) → p % n + 1 < n → (p + 1) / n ≡ p / n
div_next n p less =
    ap (λ k. k / n) (one_more p (p / n * n) (p % n) (mod-add-div' p n)) ∙ div-mul-add (p / n) n (p % n + 1) less

-- so that words are rotated alike
rotation_next : (n p : ℕ) → p % n + 1 < n → rotation n (p + 1) ≡ rotation n p
unfolding rotation
rotation_next n p less = ap (λ k. 1 - k % 2) (div_next n p less)

word_next : (n p : ℕ) (e : Edge) → p % n + 1 < n → word n (p + 1) e ≡ word n p e
unfolding word
word_next n p e less = rw (rotation_next n p less) refl

-- a cursor that goes on along its lap
pub cursor_next : (f : Frame) (p : ℕ) (c : Cursor) → 1 < c.left → IsCursorAt f p c
    → IsCursorAt f (p + 1) (record { index = c.index + 1; left = c.left - 1; rotation = c.rotation })
cursor_next f p c more on =
    let index = on.index in
    let left = on.left in
    let less : p % f.slots + 1 < f.slots = omega arith in
    let next = mod_next f.slots p less in
    record { index = omega arith; left = omega arith; rotation = on.rotation ∙ sym (word_next f.slots p no_edge less) }

-- the index lies among the words of the ring
pub index_within : {P : Type 0} (key : Key P) (words slots shards p : ℕ) (c : Cursor) → 0 < slots → slots ≡ key.layout.ring → shards ≡ key.layout.shards
    → words ≡ 5 + shards + slots → IsCursorAt (frame_of key) p c → c.index < words
index_within key words slots shards p c some' slots_is shards_is words_is on =
    let index = on.index in
    let low : p % key.layout.ring < key.layout.ring = mod-lt p (omega arith) in omega arith

-- the edge that stands for none can be held by a word
storable_none : IsStorable no_edge
storable_none = record { within = record { source = omega arith; destination = omega arith } }

-- the word of an edge is its plain word and the rotation of the lap
pub word_along : (f : Frame) (p : ℕ) (c : Cursor) (e : Edge) → IsCursorAt f p c → plain_word e + c.rotation ≡ word f.slots p e
unfolding word plain_word
word_along f p c e on = let rotation_is = on.rotation in omega arith

-- a word with the rotation of the lap is matched
rotated_alike : (f : Frame) (p w : ℕ) (c : Cursor) → IsCursorAt f p c → (rotation_of w == rotation_of c.rotation) ≡ is_matched f.slots p w
unfolding is_matched
rotated_alike f p w c on = ap (λ r. rotation_of w == r) (ap rotation_of on.rotation ∙ rotation_of-word f.slots p no_edge storable_none)

-- the rotation of a word is a bit
rotation_bit : (w : ℕ) → rotation_of w < 2
unfolding rotation_of
rotation_bit w = mod-lt _ (omega arith)

-- so that two of them are the same where they are both set or neither is
bits_alike : (a b : ℕ) → a < 2 → b < 2 → beq (a == 1) (b == 1) ≡ (a == b)
bits_alike zero zero one two = refl
bits_alike zero (suc zero) one two = refl
bits_alike (suc zero) zero one two = refl
bits_alike (suc zero) (suc zero) one two = refl
bits_alike a (suc (suc b)) one two = absurd (omega arith)
bits_alike (suc (suc a)) b one two = absurd (omega arith)

-- which is what a cursor asks of a word
pub matches_at : (f : Frame) (p w : ℕ) (c : Cursor) → IsCursorAt f p c → beq (rotation_of w == 1) (rotation_of c.rotation == 1) ≡ is_matched f.slots p w
matches_at f p w c on =
    bits_alike (rotation_of w) (rotation_of c.rotation) (rotation_bit w) (rotation_bit c.rotation) ∙ rotated_alike f p w c on
