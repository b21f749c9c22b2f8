-- A word that is read in its turn: where its position was seen, it is matched.
use Rattle.std.proofs.Common.{◌≡◌, ℕ, ◌<◌, ◌≤◌, true, false, List, inl, inr, ⊎_elim, arith}
use Rattle.std.specs.Prelude.{Option as Maybe}
use Rattle.std.proofs.lemmas.Bool.{both_ways, cases_lt}
use mathlib.Core.Option.{some}
use lib.ListN.{get_elem?}
use Rattle.atomic_table.specs.Table.{State, Step, Allows, Me}
use Rattle.go_word.specs.declared.edge.Edge.{Edge}
use Rattle.go_word.specs.Word.{is_matched}
use Rattle.go_core.specs.Frame.{place, slot, released}
use Rattle.go_core.proofs.Copied.{seen_matched}
use Rattle.go_rule.specs.declared.layout.Key.{Key}
use Rattle.go_rule.specs.declared.view.SeatView.{SeatView}
use Rattle.go_rule.specs.Meaning.{Meaning, IsLasting}
use Rattle.go_rule.specs.Views.{frame_of}
use Rattle.go_rule.specs.Rule.{cores, IsRuledBy, IsRuled}
use Rattle.go_rule.specs.Steps.{CanTakeNext}
use Rattle.go_rule.proofs.Beside.{core_there}
use Rattle.go_rule.proofs.WorkerSteps.{ordered_allowed}
use Rattle.go_ring.specs.Takes.{ReadsInTurn}

module _ {P : Type 0} (m : Meaning P) (laws : IsLasting m) (key : Key P) where
  -- a worker reads at or past the front that it moves, so that a word that isn't matched isn't seen
  unseen : (s : State (Maybe P) (SeatView P)) (log : List Edge) (parts : List P) (by : IsRuledBy m key s log parts) (i : ℕ) (d : SeatView P)
      (there : get_elem? s.views i ≡ some d) (p : ℕ) → CanTakeNext d p → is_matched key.layout.ring p (slot (frame_of key) s.words p) ≡ false
      → (d.core.seen ≤ p) × (d.core.taken ≤ p)
  unseen s log parts by i d there p can unmatched =
      let core = core_there m laws key s log parts by i d there in
      let seated = by.tied.seated i d.core core in
      let works = seated.works in
      let taken = seated.takes.to in
      let above : released s.words ≤ p =
      ⊎_elim (λ role. let known = works.archiver.knows role.0 in let from = role.1 in omega arith)
      (λ role. let known = works.flusher.knows role.0 in let from = role.1 in omega arith) can.role
      in
      ⊎_elim
      (λ (seen : p < d.core.seen).
      absurd (both_ways (is_matched key.layout.ring p (slot (frame_of key) s.words p)) unmatched
      (seen_matched (frame_of key) log s.words (cores s.views) i d.core core by.tied p seen above)))
      (λ (past : d.core.seen ≤ p). (past, omega arith)) (cases_lt p d.core.seen)

  -- the load of a word in its turn keeps the rule, and tells that besides
  pub in_turn_allowed : (slots id : ℕ) (me : Me (Maybe P) (SeatView P)) (live : me.0.core.live ≡ true) (step : Step (Maybe P)) (p : ℕ) → CanTakeNext me.0 p →
      Allows (IsRuled m key) slots id me (place (frame_of key) p) (λ n. n) (ReadsInTurn key.layout.ring p step me)
  in_turn_allowed slots id me live step p can s holds many there small =
      let found = ordered_allowed m laws key slots id me live step p can s holds many there small in (
        found.0,
        found.1,
        found.2,
        found.3,
        ⊎_elim (λ taken. inl taken)
            (λ not. let past = unseen s holds.log holds.parts holds.by id me.0 there p can not.0 in inr (not.0, past.0, past.1, not.1)) found.4,
      )
