-- What a copy tells: a word of it that is matched is written, so a load of the durable front that follows may count what it copied as seen.
use Rattle.std.proofs.Common.{◌≡◌, ℕ, ◌<◌, ◌≤◌, true, List, sym, ⊎_elim, arith, subst}
use Rattle.std.specs.Prelude.{Contains}
use Rattle.std.proofs.lemmas.Bool.{cases_lt, both_ways}
use Rattle.std.proofs.lemmas.List.Elements.{All-contains}
use mathlib.Core.Option.{some}
use lib.ListN.{get_elem?}
use Rattle.go_word.specs.declared.edge.Edge.{Edge}
use Rattle.go_word.specs.Word.{word, is_matched}
use Rattle.go_word.proofs.WordLaws.{is_matched-word}
use Rattle.go_core.specs.declared.entry.Load.{Load}
use Rattle.go_core.specs.declared.view.View.{View}
use Rattle.go_core.specs.Frame.{Frame, slot, released}
use Rattle.go_core.specs.Rule.{IsWritten, IsSound, TiedBy}
use Rattle.go_core.proofs.Lookups.{lookup-some}
use Rattle.go_core.proofs.Moved.{written_inside}

module _ (f : Frame) (log : List Edge) (words : List ℕ) (views : List View) (i : ℕ) (v : View) (there : get_elem? views i ≡ some v)
    (tied : TiedBy f log words views) where
  -- a word that was read ahead and is matched is written
  pub matched_written : (l : Load) → Contains v.loads l → is_matched f.slots l.at l.word ≡ true → IsWritten log views l.at
  matched_written l contained matched =
      let sound : IsSound f log words views v.marked l = All-contains (IsSound f log words views v.marked) v.loads l (tied.seated i v there).reads contained in
      ⊎_elim (λ late. let before : l.at < released words = late.1 in tied.ringed.archived.written l.at (omega arith))
      (λ tells. ⊎_elim (λ is. is.3) (λ ahead. absurd (both_ways (is_matched f.slots l.at l.word) ahead.0 matched)) tells) sound

  -- so a stretch from the archived front that the party knows, of which each word was read and is matched, is written
  pub copied_written : (end : ℕ) → ((p : ℕ) → v.archived ≤ p → p < end → (l : Load) × Contains v.loads l × (l.at ≡ p) × (is_matched f.slots l.at l.word ≡ true))
      → (p : ℕ) → p < end → IsWritten log views p
  copied_written end copied p below =
      let known = (tied.seated i v there).knows.archived_to in
      ⊎_elim (λ (before : p < v.archived). tied.ringed.archived.written p (omega arith))
      (λ (from : v.archived ≤ p).
      let one = copied p from below in
      subst (IsWritten log views) one.2 (matched_written one.0 one.1 one.3))
      (cases_lt p v.archived)

  -- what a party has seen and what isn't released yet stands in its slot
  pub seen_matched : (p : ℕ) → p < v.seen → released words ≤ p → is_matched f.slots p (slot f words p) ≡ true
  seen_matched p seen from =
      let r = tied.ringed in
      let archived_from = r.archived.from in
      let durable_from = r.durable.from in
      let written = (tied.seated i v there).sees.written p seen in
      let found = lookup-some log p written.within in
      let holds : slot f words p ≡ word f.slots p found.0 = r.holds p found.0 from (written_inside f log words views p r written) written found.1 in
      subst (λ n. is_matched f.slots p n ≡ true) (sym holds) (is_matched-word f.slots p found.0 (tied.storable p found.0 (omega arith) found.1))
