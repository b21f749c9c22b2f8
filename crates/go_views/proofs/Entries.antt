-- The entries that the words of a copy hold: what was seen there, and that words hold them.
use Rattle.std.proofs.Common.{◌≡◌, ℕ, zero, suc, ◌+◌, ◌-◌, ◌%◌, ◌<◌, ◌≤◌, List, [], ◌∷◌, ◌++◌, take, drop, slice_index, sym, refl, ap, ◌∙◌, arith, append_assoc}
use Rattle.std.specs.Prelude.{All}
use Rattle.std.proofs.Math.Nat.{mod-add-mod}
use Rattle.std.proofs.lemmas.List.{drop-take}
use Rattle.std.proofs.lemmas.List.Elements.{All-nil, All-cons}
use Rattle.atomic_table.proofs.Lists.{drop_at}
use Rattle.go_word.specs.declared.edge.Edge.{Edge}
use Rattle.go_word.specs.Word.{decode, IsStorable}
use Rattle.go_core.specs.Frame.{Frame}
use Rattle.go_rule.specs.declared.view.SeatView.{SeatView}
use Rattle.go_ring.specs.declared.copied.Copied.{Copied}
use Rattle.go_views.specs.Copying.{entry_at, entries_at, HasEntry, HasComeTo}

-- the slot of the next position
pub slot_next : (slot p n : ℕ) → slot ≡ p % n → (slot + 1) % n ≡ (p + 1) % n
slot_next slot p n is = ap (λ s. (s + 1) % n) is ∙ mod-add-mod p n 1

-- an entry more was decoded, and the rest is still to be
pub entry_next : (slots p to : ℕ) (words : List ℕ) (items new all : List Edge) (e : Edge) → p < to → e ≡ entry_at slots words p → new ≡ items ++ e ∷ []
    → items ++ entries_at slots words p (to - p) ≡ all → new ++ entries_at slots words (p + 1) (to - (p + 1)) ≡ all
entry_next slots p to words items new all e less is added was =
    let k = to - (p + 1) in
    let rest = entries_at slots words (p + 1) k in
    ap (λ l. l ++ rest) added ∙ append_assoc items (e ∷ []) rest ∙ ap (λ x. items ++ x ∷ rest) is
    ∙ ap (λ n. items ++ entries_at slots words p n) {x = suc k} {y = to - p} (omega arith) ∙ was

-- what a word is read as can be held
decoded_fits : (w : ℕ) → IsStorable (decode w)
unfolding decode
decoded_fits w = record { within = record { source = omega arith; destination = omega arith } }

-- each of the entries of so many words can be
pub entries_fit : (slots : ℕ) (words : List ℕ) (from count : ℕ) → All IsStorable (entries_at slots words from count)
entries_fit slots words from zero = All-nil IsStorable
entries_fit slots words from (suc n) =
    All-cons IsStorable (entry_at slots words from) (entries_at slots words (from + 1) n) (decoded_fits (slice_index words (from % slots)))
    (entries_fit slots words (from + 1) n)

-- words of positions that were seen hold what was seen there
entries_seen : (slots vertices : ℕ) (words : List ℕ) (seen : List Edge) (n p : ℕ)
    → ((q : ℕ) → p ≤ q → q < p + n → HasEntry slots vertices seen words q) → entries_at slots words p n ≡ take n (drop p seen)
entries_seen slots vertices words seen zero p has = refl
entries_seen slots vertices words seen (suc n) p has =
    let e = entry_at slots words p in
    let next : suc p ≡ p + 1 = omega arith in
    ap (λ es. e ∷ es) (entries_seen slots vertices words seen n (p + 1) (λ q least most. has q (omega arith) (omega arith)))
    ∙ ap (λ j. e ∷ take n (drop j seen)) (sym next)
    ∙ sym (ap (take (suc n)) (drop_at seen p e (has p (omega arith) (omega arith)).there))

-- and leave vertices below the number
entries_below : (slots vertices bound : ℕ) (words : List ℕ) (seen : List Edge) (n p : ℕ) → vertices ≤ bound
    → ((q : ℕ) → p ≤ q → q < p + n → HasEntry slots vertices seen words q) → All (λ e. e.src < bound) (entries_at slots words p n)
entries_below slots vertices bound words seen zero p few has = All-nil (λ (e : Edge). e.src < bound)
entries_below slots vertices bound words seen (suc n) p few has =
    let first = (has p (omega arith) (omega arith)).below.src in
    All-cons (λ (e : Edge). e.src < bound) (entry_at slots words p) (entries_at slots words (p + 1) n) (omega arith)
    (entries_below slots vertices bound words seen n (p + 1) few (λ q least most. has q (omega arith) (omega arith)))

module _ {P : Type 0} (f : Frame) (floor : ℕ) (d now : SeatView P) (copied : Copied) (buf : List ℕ) (come : HasComeTo f floor d now copied buf) where
  -- behind the archived front a copy has the entries of what was seen, up to its end
  pub entries_are : entries_at f.slots buf copied.archived (copied.end - copied.archived) ≡ drop copied.archived (take copied.end now.told.seen)
  entries_are =
      let n = copied.end - copied.archived in
      let within = come.archived.within in
      let long : copied.archived + n ≡ copied.end = omega arith in
      entries_seen f.slots now.about.vertices buf now.told.seen n copied.archived (λ q least most. come.entries q least (omega arith))
      ∙ sym (drop-take copied.archived n now.told.seen)
      ∙ ap (λ k. drop copied.archived (take k now.told.seen)) long

  -- which leave vertices that the seat knows
  pub entries_inside : (vertices : ℕ) → now.about.vertices ≤ vertices
      → All (λ e. e.src < vertices) (entries_at f.slots buf copied.archived (copied.end - copied.archived))
  entries_inside vertices few =
      let within = come.archived.within in
      entries_below f.slots now.about.vertices vertices buf now.told.seen (copied.end - copied.archived) copied.archived few
      (λ q least most. come.entries q least (omega arith))
