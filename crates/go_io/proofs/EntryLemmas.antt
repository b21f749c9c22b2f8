-- What the entries of a shelf stand for.
use Rattle.std.proofs.Common.{◌≡◌, ℕ, suc, zero, ◌<◌, ◌≤◌, List, [], ◌∷◌, length, map, set, get_or, refl, sym, ap, ◌∙◌, arith, Bool, true, false, cond}
use Rattle.std.specs.Prelude.{Option, None, Some, IfSome, find, position, nat_lt, Vec}
use Rattle.std.specs.declared.alloc.Global.{Global}
use Rattle.std.specs.List.{slice_get, position_or_len}
use Rattle.std.specs.Option.{option_map}
use Rattle.std.proofs.lemmas.Bool.{ltb-true, ltb-false}
use Rattle.std.proofs.lemmas.List.{length-map}
use Rattle.std.proofs.lemmas.List.Folds.{find_at}
use Rattle.std.proofs.lemmas.Option.{IfSome_then, cond_some, none-some, slice_get_past}
use Rattle.go_text.specs.Causes.{raised}
use Rattle.go_io.specs.Entries.{held_of}
use Rattle.go_io.specs.MemShelf.{is_named, text_in}
use Rattle.go_io.specs.declared.mem_shelf.Entry.{Entry}

-- the text of a name is the bytes of its entry
pub text_in-entries : (entries : List Entry) (name : List ℕ)
    → option_map (λ entry. entry.bytes.items) (find (λ entry. is_named name (held_of entry)) entries) ≡ text_in (map held_of entries) name
text_in-entries [] name = refl
text_in-entries (entry ∷ entries) name =
    let P : Bool → Type 0 = λ b. option_map (λ e. e.bytes.items) (cond b (Some entry) (find (λ e. is_named name (held_of e)) entries))
    ≡ option_map (λ h. h.bytes) (cond b (Some (held_of entry)) (find (is_named name) (map held_of entries))) in
    elim (is_named name (held_of entry)) as P [ true ↦ refl | false ↦ text_in-entries entries name ]

-- a name has the same place among the entries and in what they stand for
pub position_or_len-entries : (entries : List Entry) (name : List ℕ)
    → position_or_len (is_named name) (map held_of entries) ≡ position_or_len (λ entry. is_named name (held_of entry)) entries
position_or_len-entries [] name = refl
position_or_len-entries (entry ∷ entries) name = grind (arith, position_or_len-entries entries name)

-- a place that is found is the first of that name, and is there
pub place_found : (entries : List Entry) (name : List ℕ) (place : ℕ) → Some place ≡ position (λ entry. is_named name (held_of entry)) entries
    → (place ≡ position_or_len (is_named name) (map held_of entries)) × (place < length (map held_of entries))
place_found entries name place found =
    let n : ℕ = position_or_len (λ entry. is_named name (held_of entry)) entries in
    let parts = cond_some (nat_lt n (length entries)) n place (sym found) in
    let same : position_or_len (is_named name) (map held_of entries) ≡ n = position_or_len-entries entries name in
    let inside : n < length entries = ltb-true n (length entries) parts.0 in
    let long : length (map held_of entries) ≡ length entries = length-map entries held_of in
    (sym parts.1 ∙ sym same, omega (arith, parts.1))

-- where a test gives no place it fails
no_place : (b : Bool) (n : ℕ) → ◌≡◌ {A = Option ℕ} (cond b (Some n) None) None → b ≡ false
no_place true n e = absurd (none-some n (sym e))
no_place false n e = refl

-- a name with no place isn't there
pub place_none : (entries : List Entry) (name : List ℕ) → None ≡ position (λ entry. is_named name (held_of entry)) entries
    → find (is_named name) (map held_of entries) ≡ None
place_none entries name none =
    let n : ℕ = position_or_len (λ entry. is_named name (held_of entry)) entries in
    let beyond : length entries ≤ n = ltb-false n (length entries) (no_place (nat_lt n (length entries)) n (sym none)) in
    let same : position_or_len (is_named name) (map held_of entries) ≡ n = position_or_len-entries entries name in
    let long : length (map held_of entries) ≡ length entries = length-map entries held_of in
    find_at (is_named name) (map held_of entries) ∙ slice_get_past (map held_of entries) _ (omega arith)

-- an entry with other bytes
pub replaced_held : (entries : List Entry) (place : ℕ) (d : Entry) (bytes : Vec ℕ Global)
    → IfSome (slice_get (map held_of entries) place) (λ one. map held_of (set entries place (record {
      name = (get_or entries place d).name;
      bytes =
          bytes;
      faults = (get_or entries place d).faults;
    }))
    ≡ set (map held_of entries) place (record one { bytes = bytes.items }))
replaced_held [] place d bytes = tt
replaced_held (entry ∷ entries) zero d bytes = refl
replaced_held (entry ∷ entries) (suc place) d bytes =
    IfSome_then (slice_get (map held_of entries) place) (replaced_held entries place d bytes) (λ one e. ap (λ rest. held_of entry ∷ rest) e)

-- an entry with another count
pub counted_held : (entries : List Entry) (place : ℕ) (d : Entry) (count : ℕ) → count ≡ raised (get_or entries place d).faults
    → IfSome (slice_get (map held_of entries) place) (λ one. map held_of (set entries place (record {
      name = (get_or entries place d).name;
      bytes =
          (get_or entries place d).bytes;
      faults = count;
    }))
    ≡ set (map held_of entries) place (record one { faults = raised one.faults }))
counted_held [] place d count e = tt
counted_held (entry ∷ entries) zero d count e = ap (λ n. record { name = entry.name; bytes = entry.bytes.items; faults = n } ∷ map held_of entries) e
counted_held (entry ∷ entries) (suc place) d count e =
    IfSome_then (slice_get (map held_of entries) place) (counted_held entries place d count e) (λ one e. ap (λ rest. held_of entry ∷ rest) e)
