-- A text put on a shelf in memory, in the place of the old one or at the end.
use Rattle.std.proofs.Common.{◌≡◌, ℕ, List, [], ◌∷◌, ◌++◌, map, set, refl, sym, subst}
use Rattle.std.specs.Prelude.{None, Some, IfSome, find, position}
use Rattle.std.specs.List.{slice_get}
use Rattle.std.proofs.lemmas.List.{map-append}
use Rattle.go_io.specs.Entries.{held_of}
use Rattle.go_io.specs.MemShelf.{NamedText, Stock, is_named, PutsText}
use Rattle.go_io.specs.declared.mem_shelf.Entry.{Entry}
use Rattle.go_io.proofs.EntryLemmas.{place_found, place_none}
use Rattle.go_io.proofs.NamedTextLemmas.{text_in-replaced, text_in-kept, faults_in-kept, text_in-added, text_in-beside, faults_in-added}

-- a shelf with these entries
abbrev pub with_held : Stock → List NamedText → Stock
with_held stock held = record stock { held = held }

-- other bytes in the place of the name
pub puts_in_place : (stock : Stock) (entries after : List Entry) (name bytes : List ℕ) (place : ℕ)
    → Some place ≡ position (λ entry. is_named name (held_of entry)) entries
    → IfSome (slice_get (map held_of entries) place) (λ one. map held_of after ≡ set (map held_of entries) place (record one { bytes = bytes }))
    → PutsText (with_held stock (map held_of entries)) (with_held stock (map held_of after)) name bytes
puts_in_place stock entries after name bytes place is_there changed =
    let found = place_found entries name place is_there in
    record {
      here = text_in-replaced (map held_of entries) name place found.0 found.1 (map held_of after) bytes changed;
      elsewhere = text_in-kept (map held_of entries) name place found.0 found.1 (map held_of after) bytes changed;
      faults = faults_in-kept (map held_of entries) name place found.0 found.1 (map held_of after) bytes changed stock.other_faults;
      failing = refl;
      calls = refl;
    }

-- a new name at the end, with the count that it had
pub puts_at_end : (stock : Stock) (entries : List Entry) (one : Entry) → one.faults ≡ stock.other_faults
    → None ≡ position (λ entry. is_named one.name (held_of entry)) entries
    → PutsText (with_held stock (map held_of entries)) (with_held stock (map held_of (entries ++ one ∷ []))) one.name one.bytes.items
puts_at_end stock entries one same_count is_new =
    let held : List NamedText = map held_of entries in
    let absent : find (is_named one.name) held ≡ None = place_none entries one.name is_new in
    let P : List NamedText → Type 0 = λ after. PutsText (with_held stock held) (with_held stock after) one.name one.bytes.items in
    let ends : P (held ++ held_of one ∷ []) = record {
      here = text_in-added held (held_of one) absent;
      elsewhere = text_in-beside held (held_of one) absent;
      faults = rw (← same_count) (faults_in-added held (held_of one) absent);
      failing = refl;
      calls = refl;
    } in
    subst P (sym (map-append held_of entries (one ∷ []))) ends
