-- What workers do keeps the rule: words that are read in their turn, and stores of the two fronts.
use Rattle.std.proofs.Common.{◌≡◌, ℕ, ◌+◌, ◌≤◌, true, List, [], set, take, sym, refl, ap, ◌∙◌, inl, inr, ⊎_elim, arith, subst}
use Rattle.std.specs.Prelude.{slice_get, slice_index, max, Option as Maybe}
use Rattle.std.proofs.lemmas.Bool.{cases_Bool}
use Rattle.std.proofs.lemmas.List.Elements.{All-contains}
use mathlib.Core.Option.{some}
use Rattle.atomic_table.specs.Table.{State, Step, Allows, Me}
use Rattle.go_word.specs.declared.edge.Edge.{Edge}
use Rattle.go_word.specs.Word.{is_matched, decode}
use Rattle.go_core.specs.Frame.{place, slot, archived_in, durable_in, flag_in, released}
use Rattle.go_core.specs.View.{took, unmoved, archiving, flushing}
use Rattle.go_core.specs.Rule.{IsWritten}
use Rattle.go_core.specs.Parts.{IsShardPlace}
use Rattle.go_core.proofs.Moved.{four_there, word_here, word_other}
use Rattle.go_core.proofs.Claims.{All-lookup}
use Rattle.go_core.proofs.Loads.{unmoved_keeps, IsNext, matched_is, matched-decode, taken_next}
use Rattle.go_core.proofs.Fronts.{archived_stored, durable_stored}
use Rattle.go_rule.specs.declared.layout.Key.{Key}
use Rattle.go_rule.specs.declared.view.SeatView.{SeatView}
use Rattle.go_rule.specs.Meaning.{Meaning, IsLasting}
use Rattle.go_rule.specs.Views.{frame_of, with_unmoved, with_took, with_archiving, with_flushing}
use Rattle.go_rule.specs.Rule.{IsBelow, cores, HasStood, IsRuled}
use Rattle.go_rule.specs.Steps.{Took, LoadsOrdered, StoresArchived, StoresDurable, CanTakeNext, CanArchiveTo, CanFlushTo}
use Rattle.go_rule.proofs.Lists.{lookup_take}
use Rattle.go_rule.proofs.Beside.{IsRuledSeat, core_there, seen_within, NewFronts, Beside, allowed}
use Rattle.go_rule.proofs.Renewals.{sees_on, renewed_beside, read_beside, told_on, told_now, told_to, old_kept, log_small}

module _ {P : Type 0} (m : Meaning P) (laws : IsLasting m) (key : Key P) where
  module _ (s : State (Maybe P) (SeatView P)) (log : List Edge) (parts : List P) (i : ℕ) (d : SeatView P) (ruled : IsRuledSeat m key s log parts i d) where
    -- what may be read in its turn isn't released
    unreleased : (p : ℕ) → CanTakeNext d p → released s.words ≤ p
    unreleased p can =
        let works = (ruled.by.tied.seated i d.core (core_there m laws key s log parts ruled.by i d ruled.there)).works in
        ⊎_elim (λ role. let known = works.archiver.knows role.0 in let from = role.1 in omega arith) (λ role. let known = works.flusher.knows role.0 in
        let from = role.1 in omega arith)
        can.role

    -- a word that is matched is the log's
    next_is : (p : ℕ) → CanTakeNext d p → is_matched key.layout.ring p (slot (frame_of key) s.words p) ≡ true →
        IsNext (frame_of key) log s.words (cores s.views) p
    next_is p can matched =
        let core = ruled.by.tied.seated i d.core (core_there m laws key s log parts ruled.by i d ruled.there) in
        let taken = core.takes.to in
        let next = can.next in
        matched_is (frame_of key) log s.words (cores s.views) p d.core.seen ruled.by.tied core.sees.written (omega arith) (unreleased p can) matched

    took_beside : (p k : ℕ) → CanTakeNext d p → IsWritten log (cores s.views) p
        → Beside m laws key s log parts ruled.by i d ruled.there (with_took p (take (max d.core.seen (p + 1)) log) d) (set s.words k (slice_index s.words k)) []
    took_beside p k can written =
        read_beside m laws key s log parts i d ruled k (took p d.core) (record d.told { seen = take (max d.core.seen (p + 1)) log })
        (record {
          lives = ruled.live;
          tied = taken_next (frame_of key) log s.words (cores s.views) i d.core p (core_there m laws key s log parts ruled.by i d ruled.there) ruled.live
              can.next
              written ruled.by.tied;
          less = λ q. omega arith;
          goes_on = λ role. (role, omega arith);
          told = told_to m laws key s log parts i d ruled (max d.core.seen (p + 1));
          kept = old_kept m laws key s log parts i d ruled;
        })

    -- a word is read that tells nothing
    pub unmoved_beside : (k : ℕ) → Beside m laws key s log parts ruled.by i d ruled.there (with_unmoved d) (set s.words k (slice_index s.words k)) []
    unmoved_beside k =
        read_beside m laws key s log parts i d ruled k (unmoved d.core) d.told
        (record {
          lives = ruled.live;
          tied = unmoved_keeps (frame_of key) log s.words (cores s.views) i d.core (core_there m laws key s log parts ruled.by i d ruled.there) ruled.live
              ruled.by.tied;
          less = λ q. omega arith;
          goes_on = λ role. (role, omega arith);
          told = told_now m laws key s log parts i d ruled;
          kept = old_kept m laws key s log parts i d ruled;
        })

    -- what is taken: the log's entry
    took_is : (hand : List (ℕ × Maybe P)) (p : ℕ) (found : IsNext (frame_of key) log s.words (cores s.views) p) → CanTakeNext d p
        → Took {S = Maybe P} p (d, hand) (slot (frame_of key) s.words p) (with_took p (take (max d.core.seen (p + 1)) log) d, hand)
    took_is hand p found can =
        let seat = ruled.by.seats i d ruled.there in
        let front = ruled.by.tied.ringed.archived.from in
        let durable = ruled.by.tied.ringed.durable.from in
        let above = unreleased p can in
        let is : decode (slot (frame_of key) s.words p) ≡ found.edge =
        matched-decode (frame_of key) log s.words (cores s.views) p ruled.by.tied (omega arith) found in
        let within = found.written.within in
        let about = ap (λ a. a.vertices) (seat.about ruled.live) in
        record {
          seen = take (max d.core.seen (p + 1)) log;
          becomes = refl;
          sees = sees_on log d.told.seen d.core.seen (p + 1) seat.told.seen_is (seen_within m laws key s log parts ruled.by i d ruled.there i d ruled.there)
              (omega arith);
          small = let few = log_small m laws key s log parts i d ruled in omega arith;
          entry = lookup_take (max d.core.seen (p + 1)) log p (decode (slot (frame_of key) s.words p)) (omega arith) (found.there ∙ ap some (sym is));
          below = subst (λ n. IsBelow n (decode (slot (frame_of key) s.words p))) (sym about)
              (subst (IsBelow key.layout.vertices) (sym is) (All-lookup (IsBelow key.layout.vertices) log p found.edge ruled.by.logged.below found.there));
        }

    -- a store of the archived front, to where each shard is known to have stood
    archive_beside : (front : ℕ) → CanArchiveTo key.layout.shards d front →
        Beside m laws key s log parts ruled.by i d ruled.there (with_archiving front d) (set s.words 1 front) []
    archive_beside front can =
        let seat = ruled.by.seats i d ruled.there in
        let words' = set s.words 1 front in
        let core = core_there m laws key s log parts ruled.by i d ruled.there in
        let knows = (ruled.by.tied.seated i d.core core).works.archiver.knows can.role in
        let onward = can.onward in
        let long = four_there (frame_of key) log s.words (cores s.views) ruled.by.tied in
        let here : archived_in words' ≡ front = word_here s.words 1 front (omega arith) in
        let durable : durable_in words' ≡ durable_in s.words = word_other s.words 1 2 front (λ e. omega arith) in
        let flag : flag_in words' ≡ flag_in s.words = word_other s.words 1 3 front (λ e. omega arith) in
        let stood : (place : ℕ) → IsShardPlace (frame_of key) place → HasStood m (frame_of key) parts (record { place = place; front = front }) = λ place shard.
        All-contains (HasStood m (frame_of key) parts) d.stake.stood _ seat.stood (can.stood place (omega arith))
        in
        let fronts : NewFronts m laws key s log parts ruled.by i d ruled.there words' =
        record {
          rises = record { archived = omega arith; durable = omega arith; flag = λ raised. omega arith };
          shards = λ place part at_place shard. subst (λ n. n ≤ (m.state_of part).front) (sym here) ((stood place shard).reached part at_place);
          kept = λ place part at_place shard.
              (let cut = (ruled.by.held.of.shards place part at_place shard).cut_to in
              subst (m.keeps part) (sym here) ((stood place shard).kept part at_place shard (omega arith)));
          file = λ place part at_place file. subst (λ n. n ≤ (m.state_of part).front) (sym durable) (ruled.by.held.of.file place part at_place file);
        }
        in
        renewed_beside m laws key s log parts i d ruled (archiving front d.core) d.told words'
        (record {
          lives = ruled.live;
          tied = archived_stored (frame_of key) log s.words (cores s.views) i d.core front core ruled.live ruled.by.tied can.taken can.role (omega arith);
          less = λ q. omega arith;
          goes_on = λ role. (role, omega arith);
          told = told_on m laws key s log parts i d ruled words' fronts.rises;
          kept = λ place part at_place shard cut. (stood place shard).kept part at_place shard cut;
        })
        (λ place within. word_other s.words 1 (4 + place) front (λ e. omega arith)) fronts

    -- a store of the durable front, no further than the file is known to have stood
    flush_beside : (front : ℕ) → CanFlushTo key.layout.shards d front →
        Beside m laws key s log parts ruled.by i d ruled.there (with_flushing front d) (set s.words 2 front) []
    flush_beside front can =
        let seat = ruled.by.seats i d ruled.there in
        let words' = set s.words 2 front in
        let core = core_there m laws key s log parts ruled.by i d ruled.there in
        let knows = (ruled.by.tied.seated i d.core core).works.flusher.knows can.role in
        let onward = can.onward in
        let far = can.far in
        let long = four_there (frame_of key) log s.words (cores s.views) ruled.by.tied in
        let here : durable_in words' ≡ front = word_here s.words 2 front (omega arith) in
        let archived : archived_in words' ≡ archived_in s.words = word_other s.words 2 1 front (λ e. omega arith) in
        let flag : flag_in words' ≡ flag_in s.words = word_other s.words 2 3 front (λ e. omega arith) in
        let stood : HasStood m (frame_of key) parts can.stand = All-contains (HasStood m (frame_of key) parts) d.stake.stood can.stand seat.stood can.stood in
        let fronts : NewFronts m laws key s log parts ruled.by i d ruled.there words' =
        record {
          rises = record { archived = omega arith; durable = omega arith; flag = λ raised. omega arith };
          shards = λ place part at_place shard. subst (λ n. n ≤ (m.state_of part).front) (sym archived)
              (ruled.by.held.of.shards place part at_place shard).archived_to;
          kept = λ place part at_place shard. subst (m.keeps part) (sym archived) (ruled.by.held.kept place part at_place shard);
          file = λ place part at_place file.
              (let is = can.file in
              let same : place ≡ can.stand.place = omega arith in
              let reached = stood.reached part (ap (slice_get parts) (sym same) ∙ at_place) in
              omega arith);
        }
        in
        renewed_beside m laws key s log parts i d ruled (flushing front d.core) d.told words'
        (record {
          lives = ruled.live;
          tied = durable_stored (frame_of key) log s.words (cores s.views) i d.core front core ruled.live ruled.by.tied can.taken can.role (omega arith);
          less = λ q. omega arith;
          goes_on = λ role. (role, omega arith);
          told = told_on m laws key s log parts i d ruled words' fronts.rises;
          kept = old_kept m laws key s log parts i d ruled;
        })
        (λ place within. word_other s.words 2 (4 + place) front (λ e. omega arith)) fronts

  module _ (slots id : ℕ) (me : Me (Maybe P) (SeatView P)) (live : me.0.core.live ≡ true) (step : Step (Maybe P)) where
    pub ordered_allowed : (p : ℕ) → CanTakeNext me.0 p →
        Allows (IsRuled m key) slots id me (place (frame_of key) p) (λ n. n) (LoadsOrdered key.layout.ring p step me)
    ordered_allowed p can =
        allowed m laws key slots id me live (place (frame_of key) p) (λ n. n) (LoadsOrdered key.layout.ring p step me)
        (λ s log parts ruled small.
        let k = place (frame_of key) p in
        ⊎_elim
        (λ matched.
        let found = next_is s log parts id me.0 ruled p can matched in
        let told = took_is s log parts id me.0 ruled me.1 p found can in (
          with_took p (take (max me.0.core.seen (p + 1)) log) me.0,
          [],
          took_beside s log parts id me.0 ruled p k can found.written,
          inl (matched, told),
        ))
        (λ unmatched. (with_unmoved me.0, [], unmoved_beside s log parts id me.0 ruled k, inr (unmatched, refl)))
        (cases_Bool (is_matched key.layout.ring p (slot (frame_of key) s.words p))))

    pub archive_allowed : (front : ℕ) → CanArchiveTo key.layout.shards me.0 front →
        Allows (IsRuled m key) slots id me 1 (λ _. front) (λ _. StoresArchived step me front)
    archive_allowed front can =
        allowed m laws key slots id me live 1 (λ _. front) (λ _. StoresArchived step me front)
        (λ s log parts ruled small. (with_archiving front me.0, [], archive_beside s log parts id me.0 ruled front can, refl))

    pub flush_allowed : (front : ℕ) → CanFlushTo key.layout.shards me.0 front →
        Allows (IsRuled m key) slots id me 2 (λ _. front) (λ _. StoresDurable step me front)
    flush_allowed front can =
        allowed m laws key slots id me live 2 (λ _. front) (λ _. StoresDurable step me front)
        (λ s log parts ruled small. (with_flushing front me.0, [], flush_beside s log parts id me.0 ruled front can, refl))
