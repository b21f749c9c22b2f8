-- Laws of words: what is read back, which laps match, and how large a word is.
use Rattle.std.proofs.Common.{◌≡◌, ℕ, ◌<◌, ◌≤◌, ◌+◌, ◌*◌, ◌/◌, ◌%◌, ◌-◌, ◌^◌, Bool, true, false, refl, arith, ◌∙◌, ap}
use Rattle.std.proofs.lemmas.Bool.Decides.{nat_tests}
use Rattle.std.proofs.Math.Nat.{add-div_right}
use Rattle.std.specs.Prelude.{◌==◌, if◌then◌else◌}
use Rattle.go_word.specs.declared.edge.Edge.{Edge}
use Rattle.go_word.specs.declared.word.TheConstants.{DELETION, ROTATION, SOURCE, DESTINATION, ID_LIMIT}
use Rattle.go_word.specs.Log.{IsWithin}
use Rattle.go_word.specs.Word.{IsStorable, IsPlain, rotation, rotation_of, decode, plain_word, word, is_matched, blank_word}

-- a rotation bit is a bit
pub rotation-le : (n p : ℕ) → rotation n p ≤ 1
unfolding rotation
rotation-le n p = omega arith

-- the next lap has the other rotation bit
rotation-next : (n p : ℕ) → 0 < n → rotation n (p + n) ≡ 1 - rotation n p
unfolding rotation
rotation-next n p some =
    let next : (p + n) / n ≡ p / n + 1 = add-div_right p some in
    omega arith

-- the sum that a word is, by its four parts
abbrev sum_of : Bool → ℕ → ℕ → ℕ → ℕ
sum_of b r s t = (if b then DELETION else 0) + s * SOURCE + t * DESTINATION + r * ROTATION

-- each part stands apart in the sum: the deletion
sum_of-deletion : (b : Bool) (r s t : ℕ) → r ≤ 1 → s < ID_LIMIT → t < ID_LIMIT → (sum_of b r s t / DELETION % 2 == 1) ≡ b
sum_of-deletion true r s t bit source destination = let one : sum_of true r s t / DELETION % 2 ≡ 1 = omega arith in ap (λ x. x == 1) one
sum_of-deletion false r s t bit source destination = let none : sum_of false r s t / DELETION % 2 ≡ 0 = omega arith in ap (λ x. x == 1) none

-- the rotation
sum_of-rotation : (b : Bool) (r s t : ℕ) → r ≤ 1 → s < ID_LIMIT → t < ID_LIMIT → sum_of b r s t / ROTATION % 2 ≡ r
sum_of-rotation true r s t bit source destination = omega arith
sum_of-rotation false r s t bit source destination = omega arith

-- the source
sum_of-source : (b : Bool) (r s t : ℕ) → r ≤ 1 → s < ID_LIMIT → t < ID_LIMIT → sum_of b r s t / SOURCE % ID_LIMIT ≡ s
sum_of-source true r s t bit source destination = omega arith
sum_of-source false r s t bit source destination = omega arith

-- the destination
sum_of-destination : (b : Bool) (r s t : ℕ) → r ≤ 1 → s < ID_LIMIT → t < ID_LIMIT → sum_of b r s t / DESTINATION % ID_LIMIT ≡ t
sum_of-destination true r s t bit source destination = omega arith
sum_of-destination false r s t bit source destination = omega arith

-- and it fits
sum_of-lt : (b : Bool) (r s t : ℕ) → r ≤ 1 → s < ID_LIMIT → t < ID_LIMIT → sum_of b r s t < 2 ^ 64
sum_of-lt true r s t bit source destination = omega arith
sum_of-lt false r s t bit source destination = omega arith

-- an entry is what its three parts are
edge_is : (e : Edge) (b : Bool) (s t : ℕ) → b ≡ e.del → s ≡ e.src → t ≡ e.dst → record { del = b; src = s; dst = t } ≡ e
edge_is e b s t deletion source destination = rw (deletion, source, destination) refl

-- the sum that the word of an entry is
word-sum_of : (n p : ℕ) (e : Edge) → word n p e ≡ sum_of e.del (rotation n p) e.src e.dst
unfolding word plain_word
word-sum_of n p e = refl

plain_word-sum_of : (e : Edge) → plain_word e ≡ sum_of e.del 0 e.src e.dst
unfolding plain_word
plain_word-sum_of e = omega arith

-- what is read of the sum
decode-sum_of : (r : ℕ) (e : Edge) → r ≤ 1 → IsStorable e → decode (sum_of e.del r e.src e.dst) ≡ e
unfolding decode
decode-sum_of r e bit storable =
    let source : e.src < ID_LIMIT = storable.within.source in
    let destination : e.dst < ID_LIMIT = storable.within.destination in
    edge_is e _ _ _ (sum_of-deletion e.del r e.src e.dst bit source destination) (sum_of-source e.del r e.src e.dst bit source destination)
    (sum_of-destination e.del r e.src e.dst bit source destination)

rotation_of-sum_of : (r : ℕ) (e : Edge) → r ≤ 1 → IsStorable e → rotation_of (sum_of e.del r e.src e.dst) ≡ r
unfolding rotation_of
rotation_of-sum_of r e bit storable = sum_of-rotation e.del r e.src e.dst bit storable.within.source storable.within.destination

-- a word is read back
pub decode-word : (n p : ℕ) (e : Edge) → IsStorable e → decode (word n p e) ≡ e
decode-word n p e storable = ap decode (word-sum_of n p e) ∙ decode-sum_of (rotation n p) e (rotation-le n p) storable

-- a word of a file is read back
pub decode-plain_word : (e : Edge) → IsStorable e → decode (plain_word e) ≡ e
decode-plain_word e storable = ap decode (plain_word-sum_of e) ∙ decode-sum_of 0 e (omega arith) storable

-- a word has the rotation bit of its position
pub rotation_of-word : (n p : ℕ) (e : Edge) → IsStorable e → rotation_of (word n p e) ≡ rotation n p
rotation_of-word n p e storable = ap rotation_of (word-sum_of n p e) ∙ rotation_of-sum_of (rotation n p) e (rotation-le n p) storable

-- a word of a file has no rotation bit
pub rotation_of-plain_word : (e : Edge) → IsStorable e → rotation_of (plain_word e) ≡ 0
rotation_of-plain_word e storable = ap rotation_of (plain_word-sum_of e) ∙ rotation_of-sum_of 0 e (omega arith) storable

-- a word matches its position
pub is_matched-word : (n p : ℕ) (e : Edge) → IsStorable e → is_matched n p (word n p e) ≡ true
unfolding is_matched
is_matched-word n p e storable =
    let same : rotation_of (word n p e) ≡ rotation n p = rotation_of-word n p e storable in
    grind (arith, nat_tests)

-- a word doesn't match the position that takes its slot next
pub is_matched-word_before : (n p : ℕ) (e : Edge) → 0 < n → IsStorable e → is_matched n (p + n) (word n p e) ≡ false
unfolding is_matched
is_matched-word_before n p e some storable =
    let same : rotation_of (word n p e) ≡ rotation n p = rotation_of-word n p e storable in
    let other : rotation n (p + n) ≡ 1 - rotation n p = rotation-next n p some in
    let bit : rotation n p ≤ 1 = rotation-le n p in
    grind (arith, nat_tests)

-- a blank slot doesn't match the position it waits for
pub is_matched-blank_word : (n p : ℕ) → is_matched n p (blank_word n p) ≡ false
unfolding is_matched blank_word rotation_of
is_matched-blank_word n p =
    let bit : rotation n p ≤ 1 = rotation-le n p in
    let other : (1 - rotation n p) * ROTATION / ROTATION % 2 ≡ 1 - rotation n p = omega arith in
    grind (arith, nat_tests)

-- a word of an entry whose vertices are in range is one of a file
pub IsPlain-plain_word : (v : ℕ) (e : Edge) → IsStorable e → IsWithin v e → IsPlain v (plain_word e)
IsPlain-plain_word v e storable within =
    let same : decode (plain_word e) ≡ e = decode-plain_word e storable in
    record { unrotated = rotation_of-plain_word e storable; within = rw same within }

-- an entry of vertices that are below a number up to the limit can be held
pub IsStorable-IsWithin : (v : ℕ) (e : Edge) → v ≤ ID_LIMIT → IsWithin v e → IsStorable e
IsStorable-IsWithin v e small within = record { within = record { source = omega arith; destination = omega arith } }

-- what is read of a word of a file can be held
pub IsStorable-decode : (v w : ℕ) → IsPlain v w → IsStorable (decode w)
unfolding decode
IsStorable-decode v w _ = record { within = record { source = omega arith; destination = omega arith } }

-- a number of 64 bits is its parts
parts : (w : ℕ) → w < 2 ^ 64 → (w / ROTATION % 2) ≡ 0 → (if (w / DELETION % 2) == 1 then DELETION
    else 0) + w / SOURCE % ID_LIMIT * SOURCE + w / DESTINATION % ID_LIMIT * DESTINATION ≡ w
parts w fits unrotated =
    let bit : (if (w / DELETION % 2) == 1 then DELETION else 0) ≡ (w / DELETION % 2) * DELETION = grind (arith, nat_tests) in
    omega arith

-- a word of a file is the word of what is read of it
pub plain_word-decode : (v w : ℕ) → w < 2 ^ 64 → IsPlain v w → plain_word (decode w) ≡ w
unfolding plain_word decode rotation_of
plain_word-decode v w fits plain = parts w fits plain.unrotated

-- words fit
pub word-lt : (n p : ℕ) (e : Edge) → IsStorable e → word n p e < 2 ^ 64
unfolding word plain_word
word-lt n p e storable = sum_of-lt e.del (rotation n p) e.src e.dst (rotation-le n p) storable.within.source storable.within.destination

pub plain_word-lt : (e : Edge) → IsStorable e → plain_word e < 2 ^ 64
plain_word-lt e storable = rw plain_word-sum_of (sum_of-lt e.del 0 e.src e.dst (omega arith) storable.within.source storable.within.destination)

pub blank_word-lt : (n p : ℕ) → blank_word n p < 2 ^ 64
unfolding blank_word
blank_word-lt n p = omega arith
