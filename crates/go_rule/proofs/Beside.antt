-- A step on no turn and on no slot of the table: what it keeps of the tie of words and views, it keeps of the whole rule.
use Rattle.std.proofs.Common.{◌≡◌, true, ℕ, ◌+◌, ◌<◌, ◌≤◌, false, List, [], ◌++◌, map, length, set, sym, refl, ap, ◌∙◌, ⊎_elim, arith, subst}
use Rattle.std.specs.Prelude.{All, Contains, Some, slice_get, slice_index, sum_by, find, filter, is_some, ◌==◌, Option as Maybe}
use Rattle.std.proofs.lemmas.List.{map-set, length-append, take-append-le}
use Rattle.std.proofs.lemmas.List.Elements.{All-append, All-weaker}
use mathlib.Core.Option.{some}
use lib.ListN.{get_elem?}
use Rattle.atomic_table.specs.Table.{State, keeps, Allows, Me}
use Rattle.atomic_table.proofs.Lists.{at_map}
use Rattle.go_word.specs.declared.edge.Edge.{Edge}
use Rattle.go_core.specs.Frame.{archived_in, durable_in, flag_in}
use Rattle.go_core.specs.Rule.{IsWritten, TiedBy}
use Rattle.go_core.specs.Pins.{owns_name}
use Rattle.go_core.specs.Parts.{IsShardPlace, IsFilePlace, IsReached, IsTurn, IsPinnedBy}
use Rattle.go_core.proofs.Totals.{total-set}
use Rattle.go_core.proofs.Lookups.{lookup-set}
use Rattle.go_core.proofs.Moved.{within_log}
use Rattle.go_core.proofs.Claims.{All-lookup}
use Rattle.go_core.proofs.PartLaws.{parts_onward, parts_moved}
use Rattle.go_core.proofs.Parted.{GoesOn, reached_set}
use Rattle.go_core.proofs.TurnLaws.{turn_same}
use Rattle.go_core.proofs.Pinned.{pinned_set}
use Rattle.go_rule.specs.declared.layout.Key.{Key}
use Rattle.go_rule.specs.declared.view.Note.{Note}
use Rattle.go_rule.specs.declared.view.PlacedPin.{PlacedPin}
use Rattle.go_rule.specs.declared.view.Told.{Told}
use Rattle.go_rule.specs.declared.view.SeatView.{SeatView}
use Rattle.go_rule.specs.Meaning.{Meaning, IsLasting}
use Rattle.go_rule.specs.Views.{frame_of}
use Rattle.go_rule.specs.Rule.{IsBelow, Begins, cores, has_note, pins_at, IsTold, StandsFrom, IsSeat, IsRuledBy, IsRuled}
use Rattle.go_rule.proofs.Beginnings.{begins_longer}
use Rattle.go_rule.proofs.Lists.{get_within}

-- no front fell, and a raised flag stays raised
pub record Rises (words words' : List ℕ) : Type 0 where
  pub archived : archived_in words ≤ archived_in words'
  pub durable : durable_in words ≤ durable_in words'
  pub flag : 0 < flag_in words → 0 < flag_in words'

-- what a seat was told lasts
pub told_onward : (log more : List Edge) (words words' : List ℕ) (seen : ℕ) (told : Told) → Rises words words' → seen ≤ length log → IsTold log words seen told
    → IsTold (log ++ more) words' seen told
told_onward log more words words' seen told up within t =
    let archived = up.archived in
    let durable = up.durable in
    let old = t.passed in
    record {
      seen_is = t.seen_is ∙ sym (take-append-le seen log more within);
      heard = All-weaker (Begins log) (Begins (log ++ more)) (λ xs begins. begins_longer log more xs begins) told.heard t.heard;
      passed = omega arith;
      raised = λ is. up.flag (t.raised is);
    }

-- a log and parts rule the state of a table, and a live seat of it has this view
pub record IsRuledSeat {P : Type 0} (m : Meaning P) (key : Key P) (s : State (Maybe P) (SeatView P)) (log : List Edge) (parts : List P) (i : ℕ)
    (d : SeatView P) : Type 0 where
  pub by : IsRuledBy m key s log parts
  pub there : get_elem? s.views i ≡ some d
  pub live : d.core.live ≡ true

module _ {P : Type 0} (m : Meaning P) (laws : IsLasting m) (key : Key P) where
  -- what the rule says of a seat lasts
  pub seat_onward : (log more : List Edge) (words words' : List ℕ) (parts : List P) (d : SeatView P) → Rises words words' → d.core.seen ≤ length log
      → IsSeat m key log words parts d → IsSeat m key (log ++ more) words' parts d
  seat_onward log more words words' parts d up within s =
      record {
        ended = s.ended;
        about = s.about;
        told = told_onward log more words words' d.core.seen d.told up within s.told;
        lot = s.lot;
        kept = s.kept;
        noted = s.noted;
        stood = s.stood;
      }

  -- the state of a table, a log and parts that rule it, and the view of one of its seats
  module _ (s : State (Maybe P) (SeatView P)) (log : List Edge) (parts : List P) (by : IsRuledBy m key s log parts) (i : ℕ) (d : SeatView P)
      (there : get_elem? s.views i ≡ some d) where
    -- its core view is among them
    pub core_there : get_elem? (cores s.views) i ≡ some d.core
    core_there = at_map (λ (z : SeatView P). z.core) s.views i d there

    -- what each has seen is within the log
    pub seen_within : (j : ℕ) (u : SeatView P) → get_elem? s.views j ≡ some u → u.core.seen ≤ length log
    seen_within j u at_j =
        within_log log (cores s.views) u.core.seen (by.tied.seated j u.core (at_map (λ (z : SeatView P). z.core) s.views j u at_j)).sees.written

    -- the fronts rose over what the parts hold and tell of
    pub record NewFronts (words' : List ℕ) : Type 0 where
      pub rises : Rises s.words words'
      pub shards : (place : ℕ) (part : P) → slice_get parts place ≡ Some part → IsShardPlace (frame_of key) place → archived_in words' ≤ (m.state_of part).front
      pub kept : (place : ℕ) (part : P) → slice_get parts place ≡ Some part → IsShardPlace (frame_of key) place → m.keeps part (archived_in words')
      pub file : (place : ℕ) (part : P) → slice_get parts place ≡ Some part → IsFilePlace (frame_of key) place → durable_in words' ≤ (m.state_of part).front

    -- the seat has the parts and the pins that it had, its lot, and its quota but for what it claimed
    pub record SameStake (w : SeatView P) (more : List Edge) : Type 0 where
      pub notes : w.stake.notes ≡ d.stake.notes
      pub pins : w.stake.pins ≡ d.stake.pins
      pub quota : length more + w.share.quota ≡ d.share.quota
      pub lot : w.share.lot ≡ d.share.lot

    -- the words may be others, no turn among them, and the seat's view may be another, over a log that may be longer
    pub record Beside (w : SeatView P) (words' : List ℕ) (more : List Edge) : Type 0 where
      pub tied : TiedBy (frame_of key) (log ++ more) words' (set (cores s.views) i w.core)
      pub below : All (IsBelow key.layout.vertices) more
      pub written : (p : ℕ) → IsWritten log (cores s.views) p → IsWritten (log ++ more) (set (cores s.views) i w.core) p
      pub turns : (place : ℕ) → place ≤ key.layout.shards → slice_index words' (4 + place) ≡ slice_index s.words (4 + place)
      pub fronts : NewFronts words'
      pub goes_on : GoesOn d.core w.core
      pub seat : IsSeat m key (log ++ more) words' parts w
      pub same : SameStake w more

    pub beside_keeps : (w : SeatView P) (words' : List ℕ) (more : List Edge) → Beside w words' more
        → IsRuledBy m key (record { words = words'; homes = s.homes; views = set s.views i w }) (log ++ more) parts
    beside_keeps w words' more b =
        let views' = set s.views i w in
        let same : cores views' ≡ set (cores s.views) i w.core = map-set (λ (z : SeatView P). z.core) s.views i w in
        let ringed = by.tied.ringed in
        let from = ringed.archived.from in
        let to = ringed.archived.to in
        let rises = b.fronts.rises in
        let written : (p : ℕ) → IsWritten log (cores s.views) p → IsWritten (log ++ more) (cores views') p = λ p old.
        subst (λ vs. IsWritten (log ++ more) vs p) (sym same) (b.written p old)
        in
        let reached : (front : ℕ) → IsReached (cores s.views) front → IsReached (cores views') front = λ front old.
        subst (λ vs. IsReached vs front) (sym same) (reached_set (cores s.views) i d.core w.core core_there b.goes_on front old)
        in
        let stands : (part : P) → StandsFrom m key part log → StandsFrom m key part (log ++ more) = λ part old. laws.stands_on part key.first log more old in
        let quotas : sum_by (λ (z : SeatView P). z.share.quota) views' + d.share.quota ≡ sum_by (λ (z : SeatView P). z.share.quota) s.views + w.share.quota =
        total-set (λ (z : SeatView P). z.share.quota) s.views i d w there
        in
        let lots : sum_by (λ (z : SeatView P). z.share.lot) views' + d.share.lot ≡ sum_by (λ (z : SeatView P). z.share.lot) s.views + w.share.lot =
        total-set (λ (z : SeatView P). z.share.lot) s.views i d w there
        in
        let long = length-append log more in
        record {
          tied = subst (TiedBy (frame_of key) (log ++ more) words') (sym same) b.tied;
          logged = record {
            opened = take-append-le key.first log more (omega arith) ∙ by.logged.opened;
            below = All-append (IsBelow key.layout.vertices) log more by.logged.below b.below;
          };
          shared = record {
            quotas = let old = by.shared.quotas in let mine = b.same.quota in omega arith;
            lots = let old = by.shared.lots in let mine = b.same.lot in omega arith;
          };
          seats = λ j u at_j.
              ⊎_elim (λ here. subst (IsSeat m key (log ++ more) words' parts) here.1 b.seat)
              (λ other. seat_onward log more s.words words' parts u rises (seen_within j u other.1) (by.seats j u other.1)) (lookup-set s.views i j w u at_j);
          held = record {
            count = by.held.count;
            fits = by.held.fits;
            of = parts_moved m.state_of (StandsFrom m key) (frame_of key) (log ++ more) s.words words' (cores views') parts rises.archived b.fronts.shards
                b.fronts.file
                (parts_onward m.state_of (StandsFrom m key) (frame_of key) log (log ++ more) s.words (cores s.views) (cores views') parts stands written
                reached by.held.of);
            own = by.held.own;
            kept = b.fronts.kept;
          };
          file = λ place part at_place file.
              (let old = by.file place part at_place file in
              let recovered = old.recovered in
              record {
                clock = old.clock;
                faults = old.faults;
                spent = λ is. let both = old.spent is in (both.0, rises.flag both.1);
                recovered = record {
                  upto = recovered.upto;
                  written = λ p less. written p (recovered.written p less);
                  recovers = subst (λ xs. m.recovers part xs key.layout.vertices key.first (m.mark_of key.file.value))
                      (sym (take-append-le recovered.upto log more (within_log log (cores s.views) recovered.upto recovered.written))) recovered.recovers;
                };
              });
          home = record {
            turn = λ place within.
                subst (λ n. IsTurn (has_note place) n views') (sym (b.turns place within))
                (turn_same (has_note place) s.views i d w (slice_index s.words (4 + place)) there (same_note place w b.same.notes) (by.home.turn place within));
            at_home = λ place part at_place free. by.home.at_home place part at_place (sym (b.turns place (place_within place part at_place)) ∙ free);
          };
          pinned = λ place part at_place shard.
              pinned_set (pins_at place) (λ z. []) (λ z. false) (m.state_of part).pins s.views i d w there
              (let old : IsPinnedBy (pins_at place) (λ z. []) (λ z. false) (m.state_of part).pins d =
              All-lookup (IsPinnedBy (pins_at place) (λ z. []) (λ z. false) (m.state_of part).pins) s.views i d (by.pinned place part at_place shard).each there
              in
              record {
                pinned = λ free. subst (All (Contains (m.state_of part).pins)) (sym (same_pins place w b.same.pins)) (old.pinned free);
                none_put =
                    λ free. refl;
              })
              (λ id owns. ap (λ ps. owns_name id ps []) (sym (same_pins place w b.same.pins)) ∙ owns)
              (by.pinned place part at_place shard);
        }
      where
        same_note : (place : ℕ) (w : SeatView P) → w.stake.notes ≡ d.stake.notes → has_note place w ≡ has_note place d
        same_note place w same = ap (λ ns. is_some (find (λ (n : Note P). n.place == place) ns)) same

        same_pins : (place : ℕ) (w : SeatView P) → w.stake.pins ≡ d.stake.pins → pins_at place w ≡ pins_at place d
        same_pins place w same = ap (λ xs. map (λ (x : PlacedPin). x.pin) (filter (λ (x : PlacedPin). x.place == place) xs)) same

        place_within : (place : ℕ) (part : P) → slice_get parts place ≡ Some part → place ≤ key.layout.shards
        place_within place part at_place = let count = by.held.count in let less = get_within parts place part at_place in omega arith

-- a step of a live seat is allowed that finds, whatever state the table is in, a view and more of the log that keep it ruled
pub allowed : {P : Type 0} (m : Meaning P) (laws : IsLasting m) (key : Key P) (slots id : ℕ) (me : Me (Maybe P) (SeatView P)) (live : me.0.core.live ≡ true)
    (k : ℕ) (f : ℕ → ℕ) (then : ℕ → Me (Maybe P) (SeatView P) → Type 0)
    → ((s : State (Maybe P) (SeatView P)) (log : List Edge) (parts : List P) (ruled : IsRuledSeat m key s log parts id me.0)
    → slice_index s.words k < 18446744073709551616
    → (w : SeatView P) × (more : List Edge)
    × Beside m laws key s log parts ruled.by id me.0 ruled.there w (set s.words k (f (slice_index s.words k))) more
    × then (slice_index s.words k) (w, me.1))
    → Allows (IsRuled m key) slots id me k f then
allowed m laws key slots id me live k f then step s holds many there small =
    let found = step s holds.log holds.parts (record { by = holds.by; there = there; live = live }) small in
    let now : IsRuled m key (record { words = set s.words k (f (slice_index s.words k)); homes = s.homes; views = set s.views id found.0 }) =
    record {
      log = holds.log ++ found.1;
      parts = holds.parts;
      by = beside_keeps m laws key s holds.log holds.parts holds.by id me.0 there found.0 _ found.1 found.2;
    }
    in
    (found.0, keeps, tt, now, found.3)
