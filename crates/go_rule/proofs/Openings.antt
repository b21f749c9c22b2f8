-- A ring that is opened is ruled by the entries before its first position.
use Rattle.std.proofs.Common.{◌≡◌, ℕ, zero, suc, ◌+◌, ◌<◌, ◌≤◌, true, false, List, [], ◌∷◌, map, take, sym, refl, ap, ◌∙◌, arith, subst}
use Rattle.std.specs.Prelude.{All, Contains, Some, slice_get, slice_index, count_by, Option as Maybe}
use Rattle.std.proofs.lemmas.Bool.{false≢true, true≢false}
use Rattle.std.proofs.lemmas.Option.{none-some, same_Some}
use Rattle.std.proofs.lemmas.List.{take_all}
use Rattle.std.proofs.lemmas.List.Elements.{All-nil, All-cons}
use mathlib.Core.Option.{some}
use lib.ListN.{get_elem?}
use Rattle.atomic_table.specs.Table.{opening}
use Rattle.go_word.specs.declared.pin.Pin.{Pin}
use Rattle.go_core.specs.declared.view.View.{View}
use Rattle.go_core.specs.Frame.{archived_in, durable_in}
use Rattle.go_core.specs.Rule.{IsWritten, TiedBy}
use Rattle.go_core.specs.Opening.{AreOpening, opening_view}
use Rattle.go_word.specs.Pins.{is_named}
use Rattle.go_core.specs.declared.part.PartState.{PartState}
use Rattle.go_core.specs.Pins.{owns_name}
use Rattle.go_core.specs.Parts.{Mark, IsShardOf, AreNamed, IsPinnedBy}
use Rattle.go_core.proofs.Totals.{bit_of}
use Rattle.go_core.proofs.Openings.{IsOpening, opening_tied}
use Rattle.go_rule.specs.declared.layout.Key.{Key}
use Rattle.go_rule.specs.declared.view.SeatView.{SeatView}
use Rattle.go_rule.specs.Meaning.{Meaning}
use Rattle.go_rule.specs.Views.{frame_of, opened_of, first_view}
use Rattle.go_rule.specs.Rule.{Begins, has_note, pins_at, HasStood, IsSeat, IsRuled}
use Rattle.go_rule.specs.Opening.{CanOpen}
use Rattle.go_rule.proofs.Lists.{only, sum_one}

-- what stands at a place of the table's slots is at home
homes_at : {P : Type 0} (parts : List P) (place : ℕ) (part : P) → slice_get parts place ≡ Some part →
    get_elem? (map some (map Some parts)) place ≡ some (some (Some part))
homes_at [] place part there = absurd (none-some part there)
homes_at (x ∷ xs) zero part there = ap (λ z. some (some (Some z))) (same_Some x part there)
homes_at (x ∷ xs) (suc place) part there = homes_at xs place part there

-- a shard at the first position is one
first_shard : (archived : ℕ) (s : PartState) → archived ≤ s.front → s.cut ≤ archived → s.pins ≡ [] → IsShardOf archived s
first_shard archived s to cut none =
    record {
      archived_to = to;
      cut_to = cut;
      cut_pins = subst (All (λ (pin : Pin). s.cut ≤ pin.front)) (sym none) (All-nil (λ (pin : Pin). s.cut ≤ pin.front));
      pins_to = subst (All (λ (pin : Pin). pin.front ≤ archived)) (sym none) (All-nil (λ (pin : Pin). pin.front ≤ archived));
      names = subst AreNamed (sym none) (All-nil (λ (pin : Pin). count_by (is_named pin.id) [] ≡ 1));
    }

module _ {P : Type 0} (m : Meaning P) (key : Key P) (words : List ℕ) (slots : List (Maybe P)) (ring : 0 < key.layout.ring)
    (o : AreOpening (frame_of key) words) (can : CanOpen m key slots) where
  pub opening_ruled : IsRuled m key (opening words slots (first_view (m.mark_of key.file.value) key))
  opening_ruled =
      let log = opened_of key in
      let parts = can.parts in
      let mark = m.mark_of key.file.value in
      let d = first_view mark key in
      let views : List (SeatView P) = d ∷ [] in
      let f = frame_of key in
      let v = opening_view key.first true true in
      let long = can.room.long in
      let archived : archived_in words ≡ key.first = o.archived in
      let durable : durable_in words ≡ key.first = o.durable in
      let one_archiver : count_by (λ (u : View). u.archives) (v ∷ []) ≡ 1 = sum_one (λ (u : View). bit_of u.archives) v in
      let one_flusher : count_by (λ (u : View). u.flushes) (v ∷ []) ≡ 1 = sum_one (λ (u : View). bit_of u.flushes) v in
      let tied : TiedBy f log words (v ∷ []) =
      opening_tied f log words (v ∷ []) ring (omega arith) o long (All-cons (IsOpening key.first) v [] refl (All-nil (IsOpening key.first))) (omega arith)
      (omega arith)
      in
      let whole : take key.first log ≡ log = take_all key.first log (omega arith) in
      let written : (p : ℕ) → p < key.first → IsWritten log (v ∷ []) p = λ p less. tied.ringed.archived.written p (omega arith) in
      record {
        log = log;
        parts = parts;
        by = record {
          tied = tied;
          logged = record { opened = whole; below = can.room.below };
          shared = record {
            quotas = let few = can.room.few in let sum = sum_one (λ (z : SeatView P). z.share.quota) d in omega arith;
            lots = sum_one (λ (z : SeatView P). z.share.lot) d;
          };
          seats = λ i u there. subst (IsSeat m key log words parts) (only d u i there)
              (record {
                ended = λ dead. absurd (true≢false dead);
                about = λ live. refl;
                told = record { seen_is = sym whole; heard = All-nil (Begins log); passed = omega arith; raised = λ is. absurd (false≢true is) };
                lot = λ live. omega arith;
                kept = λ live place part at_place shard cut. (can.shards place part at_place shard).keeps;
                noted = All-nil (λ n. slice_get parts n.place ≡ Some n.part);
                stood = All-nil (HasStood m f parts);
              });
          held = record {
            count = can.count;
            fits = λ place part at_place. (can.first place part at_place).fits;
            of = record {
              of_log = λ place part at_place.
                  (let first = can.first place part at_place in
                  let front = first.front in
                  record { stands = first.stands; written = λ p less. written p (omega arith) });
              shards = λ place part at_place shard.
                  (let front = (can.first place part at_place).front in
                  let is = can.shards place part at_place shard in
                  let cut = is.cut in
                  first_shard (archived_in words) (m.state_of part) (omega arith) (omega arith) is.pins);
              reached = λ place part at_place shard i u there role.
                  (let front = (can.first place part at_place).front in
                  let taken : u.taken ≡ key.first = ap (λ (z : View). z.taken) (sym (only v u i there)) in
                  omega arith);
              file = λ place part at_place file. let front = (can.first place part at_place).front in omega arith;
            };
            own = λ place part at_place shard. subst (m.keeps part) (sym (can.first place part at_place).front) (can.shards place part at_place shard).keeps;
            kept = λ place part at_place shard. subst (m.keeps part) (sym archived) (can.shards place part at_place shard).keeps;
          };
          file = λ place part at_place file.
              (let is = can.file place part at_place file in
              let marks : m.mark_of part ≡ mark = ap m.mark_of is.same in
              let clocks : (m.mark_of part).clock ≡ mark.clock = ap (λ (z : Mark). z.clock) marks in
              let faults : (m.mark_of part).faults ≡ mark.faults = ap (λ (z : Mark). z.faults) marks in
              record {
                clock = omega arith;
                faults = omega arith;
                spent = λ gone. absurd (is.whole gone);
                recovered = record {
                  upto = key.first;
                  written = written;
                  recovers = subst (λ xs. m.recovers part xs key.layout.vertices key.first mark) (sym whole)
                      (subst (λ z. m.recovers part log key.layout.vertices key.first z) marks is.recovers);
                };
              });
          home = record {
            turn = λ place small.
                (let none : slice_index words (4 + place) ≡ 0 = o.turns (4 + place) (omega arith) (omega arith) in
                let nobody : count_by (has_note place) views ≡ 0 = sum_one (λ (z : SeatView P). bit_of (has_note place z)) d in
                record { counts = nobody ∙ sym none; one = omega arith });
            at_home = λ place part at_place free. subst (λ xs. get_elem? (map some xs) place
                ≡ some (some (Some part))) (sym can.all) (homes_at parts place part at_place);
          };
          pinned = λ place part at_place shard.
              (let held = (m.state_of part).pins in
              record {
                each = All-cons (IsPinnedBy (pins_at place) (λ z. []) (λ z. false) held) d [] (record {
                  pinned =
                      λ free. All-nil (Contains held);
                  none_put = λ free. refl;
                })
                    (All-nil (IsPinnedBy (pins_at place) (λ z. []) (λ z. false) held));
                apart = λ id. let nobody : count_by (λ (z : SeatView P). owns_name id (pins_at place z) []) views ≡ 0 =
                    sum_one (λ (z : SeatView P). bit_of (owns_name id (pins_at place z) [])) d in omega arith;
              });
        };
      }
