-- Two seats are joined: no word changes, and the rule is kept.
use Rattle.std.proofs.Common.{◌≡◌, ℕ, ◌+◌, ◌<◌, ◌≤◌, ◌≢◌, Bool, true, false, cond, List, [], ◌∷◌, ◌++◌, map, length, set, take, sym, refl, ap, ◌∙◌, ⊎_elim}
use Rattle.std.proofs.Common.{arith, subst}
use Rattle.std.specs.Prelude.{Some, slice_get, slice_index, sum_by, max, nat_lt, filter, find, is_some, ◌==◌, Option as Maybe}
use Rattle.std.proofs.lemmas.Bool.{false≢true, cases_lt, or_cases}
use Rattle.std.proofs.lemmas.Bool.Decides.{nat_tests}
use Rattle.std.proofs.lemmas.List.{map-set, map-append}
use Rattle.std.proofs.lemmas.List.Elements.{All-nil, All-cons, All-append}
use mathlib.Core.Option.{some}
use lib.ListN.{get_elem?}
use Rattle.atomic_table.specs.Table.{State, Joins}
use Rattle.go_word.specs.declared.edge.Edge.{Edge}
use Rattle.go_core.specs.declared.view.View.{View}
use Rattle.go_core.specs.View.{unfilled, spent}
use Rattle.go_core.specs.Rule.{owed, IsWritten, TiedBy}
use Rattle.go_core.specs.Parts.{IsReached}
use Rattle.go_core.proofs.Totals.{total-set}
use Rattle.go_core.proofs.Lookups.{lookup-set, lookup-set_other}
use Rattle.go_core.proofs.Onward.{written_same}
use Rattle.go_core.proofs.Loads.{still_live}
use Rattle.go_core.proofs.Splits.{join_keeps, total_joined, joined_unfilled}
use Rattle.go_core.proofs.Parted.{reached_set}
use Rattle.go_core.proofs.TurnLaws.{turn_same}
use Rattle.go_core.proofs.Pinned.{pinned_joined}
use Rattle.go_rule.specs.declared.layout.Key.{Key}
use Rattle.go_rule.specs.declared.view.Note.{Note}
use Rattle.go_rule.specs.declared.view.PlacedPin.{PlacedPin}
use Rattle.go_rule.specs.declared.view.Told.{Told}
use Rattle.go_rule.specs.declared.view.SeatView.{SeatView}
use Rattle.go_rule.specs.Meaning.{Meaning, IsLasting}
use Rattle.go_rule.specs.Views.{frame_of, spent_view, told_both, joining_seat}
use Rattle.go_rule.specs.Rule.{Begins, cores, has_note, pins_at, HasStood, IsTold, IsSeat, IsRuledBy, IsRuled}
use Rattle.go_rule.proofs.Beginnings.{begins_take}
use Rattle.go_rule.proofs.Beside.{core_there, seen_within}
use Rattle.go_rule.proofs.Sharing.{Reseated, reseated_keeps}
use Rattle.std.proofs.lemmas.List.Elements.{filter-append}

-- the longer of two beginnings
longer_seen : (v w : ℕ) (log : List Edge) (b : Bool) → nat_lt v w ≡ b → cond b (take w log) (take v log) ≡ take (max v w) log
longer_seen v w log true is = let less : v < w = grind (arith, nat_tests) in ap (λ n. take n log) (omega arith)
longer_seen v w log false is = let over : w ≤ v = grind (arith, nat_tests) in ap (λ n. take n log) (omega arith)

-- what both were told
told_joined : (log : List Edge) (words : List ℕ) (v w : View) (one two : Told) → v.seen ≤ length log → w.seen ≤ length log → IsTold log words v.seen one
    → IsTold log words w.seen two → IsTold log words (max v.seen w.seen) (told_both v w one two)
told_joined log words v w one two small large first second =
    let a = first.passed in
    let b = second.passed in
    record {
      seen_is = ap (λ xs. cond (nat_lt v.seen w.seen) xs one.seen) second.seen_is ∙ ap (λ xs. cond (nat_lt v.seen w.seen) (take w.seen log) xs) first.seen_is
          ∙ longer_seen v.seen w.seen log (nat_lt v.seen w.seen) refl;
      heard = All-append (Begins log) one.heard (one.seen ∷ two.seen ∷ two.heard) first.heard
          (All-cons (Begins log) one.seen (two.seen ∷ two.heard) (subst (Begins log) (sym first.seen_is) (begins_take v.seen log small))
          (All-cons (Begins log) two.seen two.heard (subst (Begins log) (sym second.seen_is) (begins_take w.seen log large)) second.heard));
      passed = omega arith;
      raised = λ is. ⊎_elim (λ mine. first.raised mine) (λ theirs. second.raised theirs) (or_cases one.flagged two.flagged is);
    }

module _ {P : Type 0} (m : Meaning P) (laws : IsLasting m) (key : Key P) where
  -- what the rule says of a seat that was joined in
  spent_seat : (log : List Edge) (words : List ℕ) (parts : List P) → IsSeat m key log words parts spent_view
  spent_seat log words parts =
      record {
        ended = λ dead. refl;
        about = λ live. absurd (false≢true live);
        told = record { seen_is = refl; heard = All-nil (Begins log); passed = omega arith; raised = λ is. absurd (false≢true is) };
        lot = λ live. absurd (false≢true live);
        kept = λ live. absurd (false≢true live);
        noted = All-nil (λ (n : Note P). slice_get parts n.place ≡ Some n.part);
        stood = All-nil (HasStood m (frame_of key) parts);
      }

  -- a part that tells of both of two fronts tells of the greater
  keeps_max : (part : P) (cut a b : ℕ) → (cut ≤ a → m.keeps part a) → (cut ≤ b → m.keeps part b) → cut ≤ max a b → m.keeps part (max a b)
  keeps_max part cut a b one two to =
      ⊎_elim (λ (less : a < b). let is : b ≡ max a b = omega arith in subst (m.keeps part) is (two (omega arith)))
      (λ (over : b ≤ a). let is : a ≡ max a b = omega arith in subst (m.keeps part) is (one (omega arith))) (cases_lt a b)

  module _ (s : State (Maybe P) (SeatView P)) (log : List Edge) (parts : List P) (by : IsRuledBy m key s log parts) (i j : ℕ) (d e : SeatView P)
      (ne : j ≢ i) (there : get_elem? s.views i ≡ some d) (other : get_elem? s.views j ≡ some e) (live : d.core.live ≡ true) (lives : e.core.live ≡ true) where
    both_seat : IsSeat m key log s.words parts (joining_seat d e)
    both_seat =
        let one = by.seats i d there in
        let two = by.seats j e other in
        record {
          ended = λ dead. still_live d.core _ live dead;
          about = one.about;
          told = told_joined log s.words d.core e.core d.told e.told (seen_within m laws key s log parts by i d there i d there)
              (seen_within m laws key s log parts by j e other j e other)
              one.told two.told;
          lot = λ _. let some' = one.lot live in omega arith;
          kept = λ _ place part at_place shard cut.
              keeps_max part (m.state_of part).cut d.core.archived e.core.archived (one.kept live place part at_place shard)
              (two.kept lives place part at_place shard) cut;
          noted = one.noted;
          stood = All-append (HasStood m (frame_of key) parts) d.stake.stood e.stake.stood one.stood two.stood;
        }

    join_reseated : e.core.pending ≡ [] → e.stake.notes ≡ [] → Reseated m laws key s log parts by (set (set s.views i (joining_seat d e)) j spent_view)
    join_reseated pending notes =
        let both = joining_seat d e in
        let views' = set (set s.views i both) j spent_view in
        let vs = cores s.views in
        let core = core_there m laws key s log parts by i d there in
        let core_e = core_there m laws key s log parts by j e other in
        let vs' = set (set vs i both.core) j spent in
        let same : cores views' ≡ vs' =
        map-set (λ (z : SeatView P). z.core) (set s.views i both) j spent_view ∙ ap (λ zs. set zs j spent) (map-set (λ (z : SeatView P). z.core) s.views i both)
        in
        let after : get_elem? (set s.views i both) j ≡ some e = lookup-set_other s.views i j both ne ∙ other in
        let total : (g : SeatView P → ℕ) → g both ≡ g d + g e → g spent_view ≡ 0 → sum_by g views' ≡ sum_by g s.views = λ g sum nothing.
        (let first : sum_by g (set s.views i both) + g d ≡ sum_by g s.views + g both = total-set g s.views i d both there in
        let second : sum_by g views' + g e ≡ sum_by g (set s.views i both) + g spent_view = total-set g (set s.views i both) j e spent_view after in
        omega arith)
        in
        let owe : (p : ℕ) → owed vs' p ≡ owed vs p = λ p.
        (let sum : owed vs' p + unfilled p d.core + unfilled p e.core ≡ owed vs p + unfilled p both.core =
        total_joined (unfilled p) vs i j d.core e.core both.core ne core core_e refl in
        let parts' = joined_unfilled p d.core e.core pending in
        omega arith)
        in
        record {
          tied = subst (TiedBy (frame_of key) log s.words) (sym same) (join_keeps
              (frame_of key) log s.words vs i j d.core e.core ne core core_e live pending by.tied);
          written = λ p old. subst (λ zs. IsWritten log zs p) (sym same) (written_same log vs vs' p (owe p) old);
          reached = λ front old.
              subst (λ zs. IsReached zs front) (sym same)
              (reached_set (set vs i both.core) j e.core spent (lookup-set_other vs i j both.core ne ∙ core_e) (λ none. absurd (false≢true none)) front
              (reached_set vs i d.core both.core core (λ role. (role, omega arith)) front old));
          quotas = total (λ (z : SeatView P). z.share.quota) refl refl;
          lots = total (λ (z : SeatView P). z.share.lot) refl refl;
          seats = λ k u at_k.
              ⊎_elim (λ gone. subst (IsSeat m key log s.words parts) gone.1 (spent_seat log s.words parts))
              (λ rest.
              ⊎_elim (λ here. subst (IsSeat m key log s.words parts) here.1 both_seat) (λ else'. by.seats k u else'.1) (lookup-set s.views i k both u rest.1))
              (lookup-set (set s.views i both) j k spent_view u at_k);
          turns = λ place within.
              turn_same (has_note place) (set s.views i both) j e spent_view (slice_index s.words (4 + place)) after
              (sym (ap (λ ns. is_some (find (λ (n : Note P). n.place == place) ns)) notes))
              (turn_same (has_note place) s.views i d both (slice_index s.words (4 + place)) there refl (by.home.turn place within));
          pinned = λ place part at_place shard.
              (let held = (m.state_of part).pins in
              let old = by.pinned place part at_place shard in
              pinned_joined (pins_at place) (λ z. []) (λ z. false) held s.views i j d e both spent_view (record { ne = ne; there = there; other = other })
              (record { free = refl; turn = refl; all_pins = pins_both place; as_put = refl; none = refl; none_put = refl }) old);
        }
      where
        pins_both : (place : ℕ) → pins_at place (joining_seat d e) ≡ pins_at place d ++ pins_at place e
        pins_both place =
            ap (map (λ (x : PlacedPin). x.pin)) (filter-append (λ (x : PlacedPin). x.place == place) d.stake.pins e.stake.pins)
            ∙ map-append (λ (x : PlacedPin). x.pin) (filter (λ (x : PlacedPin). x.place == place) d.stake.pins)
            (filter (λ (x : PlacedPin). x.place == place) e.stake.pins)

  pub join_allowed : (id other : ℕ) (d e : SeatView P) → d.core.live ≡ true → e.core.live ≡ true → e.core.pending ≡ [] → e.stake.notes ≡ []
      → Joins (IsRuled m key) id d other e (joining_seat d e) spent_view
  join_allowed id other d e live lives pending notes s holds there ne after =
      let at_other : get_elem? s.views other ≡ some e = sym (lookup-set_other s.views id other (joining_seat d e) ne) ∙ after in
      record {
        log = holds.log;
        parts = holds.parts;
        by = reseated_keeps m laws key s holds.log holds.parts holds.by _
            (join_reseated s holds.log holds.parts holds.by id other d e ne there at_other live lives pending notes);
      }
