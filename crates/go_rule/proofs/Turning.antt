-- A step on a turn word: what it keeps of the parts, of turns and homes and of the pins, it keeps of the whole rule.
use Rattle.std.proofs.Common.{◌≡◌, ℕ, ◌+◌, ◌<◌, ◌≤◌, List, [], length, set, sym, ◌∙◌, ⊎_elim, arith, subst, append-nil}
use Rattle.std.specs.Prelude.{Some, slice_get, slice_index, sum_by, Option as Maybe}
use Rattle.std.proofs.lemmas.List.{map-set}
use mathlib.Core.Option.{Option, some}
use lib.ListN.{get_elem?}
use Rattle.atomic_table.specs.Table.{State}
use Rattle.go_word.specs.declared.edge.Edge.{Edge}
use Rattle.go_core.specs.Frame.{archived_in, durable_in, flag_in}
use Rattle.go_core.specs.View.{unmoved}
use Rattle.go_core.specs.Rule.{IsWritten, TiedBy}
use Rattle.go_core.specs.Parts.{IsFilePlace, IsReached, ArePartsOf}
use Rattle.go_core.proofs.Totals.{total-set}
use Rattle.go_core.proofs.Lookups.{lookup-set}
use Rattle.go_core.proofs.Moved.{word_here, word_other}
use Rattle.go_core.proofs.Parted.{written_less, reached_set}
use Rattle.go_core.proofs.PartLaws.{parts_onward, parts_still}
use Rattle.go_core.proofs.TurnLaws.{turn_stored}
use Rattle.go_rule.specs.declared.layout.Key.{Key}
use Rattle.go_rule.specs.declared.view.Stake.{Stake}
use Rattle.go_rule.specs.declared.view.SeatView.{SeatView}
use Rattle.go_rule.specs.Meaning.{Meaning, IsLasting}
use Rattle.go_rule.specs.Views.{frame_of}
use Rattle.go_rule.specs.Rule.{cores, StandsFrom, AreHeld, IsSeat, IsFile, AreHome, IsPinned, IsRuledBy}
use Rattle.go_rule.proofs.Beside.{IsRuledSeat, seat_onward, core_there, seen_within}

module _ {P : Type 0} (m : Meaning P) (laws : IsLasting m) (key : Key P) where
  module _ (s : State (Maybe P) (SeatView P)) (log : List Edge) (parts : List P) (i : ℕ) (d : SeatView P) (ruled : IsRuledSeat m key s log parts i d)
      (place : ℕ) (within : place ≤ key.layout.shards) where
    -- the turn's word is there, and reads what was stored
    pub turn_reads : (n : ℕ) → slice_index (set s.words (4 + place) n) (4 + place) ≡ n
    turn_reads n = let all = ruled.by.tied.ringed.shape.all_words in word_here s.words (4 + place) n (omega arith)

    module _ (n : ℕ) (stake : Stake P) where
      -- the words and the seat's view after the step
      abbrev pub words_then : List ℕ
      words_then = set s.words (4 + place) n

      abbrev pub view_then : SeatView P
      view_then = record d { core = unmoved d.core; stake = stake }

      abbrev pub views_then : List (SeatView P)
      views_then = set s.views i view_then

      -- the cores are as they were, but of the seat
      cores_then : cores views_then ≡ set (cores s.views) i (unmoved d.core)
      cores_then = map-set (λ (z : SeatView P). z.core) s.views i view_then

      archived_then : archived_in words_then ≡ archived_in s.words
      archived_then = word_other s.words (4 + place) 1 n (λ e. omega arith)

      durable_then : durable_in words_then ≡ durable_in s.words
      durable_then = word_other s.words (4 + place) 2 n (λ e. omega arith)

      pub flag_then : flag_in words_then ≡ flag_in s.words
      flag_then = word_other s.words (4 + place) 3 n (λ e. omega arith)

      written_then : (p : ℕ) → IsWritten log (cores s.views) p → IsWritten log (cores views_then) p
      written_then p old =
          subst (λ vs. IsWritten log vs p) (sym cores_then)
          (written_less log log (cores s.views) i d.core (unmoved d.core) (core_there m laws key s log parts ruled.by i d ruled.there) (omega arith)
          (λ q less. omega arith) p old)

      reached_then : (front : ℕ) → IsReached (cores s.views) front → IsReached (cores views_then) front
      reached_then front old =
          subst (λ vs. IsReached vs front) (sym cores_then)
          (reached_set (cores s.views) i d.core (unmoved d.core) (core_there m laws key s log parts ruled.by i d ruled.there) (λ role. (role, omega arith))
          front old)

      tied_then : TiedBy (frame_of key) log words_then (cores views_then)
      tied_then =
          subst (TiedBy (frame_of key) log words_then) (sym cores_then)
          (turn_stored (frame_of key) log s.words (cores s.views) i d.core (4 + place) n (core_there m laws key s log parts ruled.by i d ruled.there) ruled.live
          (omega arith) (omega arith) ruled.by.tied)

      total_then : (g : SeatView P → ℕ) → g view_then ≡ g d → sum_by g views_then ≡ sum_by g s.views
      total_then g same =
          let e : sum_by g views_then + g d ≡ sum_by g s.views + g view_then = total-set g s.views i d view_then ruled.there in
          omega arith

      seat_then : (parts' : List P) (u : SeatView P) → u.core.seen ≤ length log → IsSeat m key log s.words parts' u → IsSeat m key log words_then parts' u
      seat_then parts' u seen is =
          subst (λ l. IsSeat m key l words_then parts' u) (append-nil log)
          (seat_onward m laws key log [] s.words words_then parts' u
          (record {
            archived = let e = archived_then in omega arith;
            durable = let e = durable_then in omega arith;
            flag = λ raised. (let e = flag_then in omega arith);
          }) seen is)

      parts_then : (parts' : List P) → ArePartsOf m.state_of (StandsFrom m key) (frame_of key) log s.words (cores s.views) parts'
          → ArePartsOf m.state_of (StandsFrom m key) (frame_of key) log words_then (cores views_then) parts'
      parts_then parts' of =
          parts_still m.state_of (StandsFrom m key) (frame_of key) log s.words words_then (cores views_then) parts' archived_then durable_then
          (parts_onward m.state_of (StandsFrom m key) (frame_of key) log log s.words (cores s.views) (cores views_then) parts' (λ part old. old) written_then
          reached_then of)

      -- the parts may be others by the words and the cores that were, and homes, turns and pins are as they have to be then
      pub record Turned (homes' : List (Option (Maybe P))) (parts' : List P) : Type 0 where
        pub held : AreHeld m key log s.words (cores s.views) parts'
        pub seats : (j : ℕ) (u : SeatView P) → get_elem? views_then j ≡ some u → (u.core.seen ≤ length log) × IsSeat m key log s.words parts' u
        pub file : (place' : ℕ) (part : P) → slice_get parts' place' ≡ Some part → IsFilePlace (frame_of key) place'
            → IsFile m key log s.words (cores s.views) part
        pub home : AreHome m key words_then homes' views_then parts'
        pub pinned : IsPinned m key views_then parts'

      pub turned_keeps : {homes' : List (Option (Maybe P))} {parts' : List P} → Turned homes' parts'
          → IsRuledBy m key (record { words = words_then; homes = homes'; views = views_then }) log parts'
      turned_keeps {homes'} {parts'} t =
          record {
            tied = tied_then;
            logged = ruled.by.logged;
            shared = record {
              quotas = let old = ruled.by.shared.quotas in let same = total_then (λ (z : SeatView P). z.share.quota) (omega arith) in omega arith;
              lots = total_then (λ (z : SeatView P). z.share.lot) (omega arith) ∙ ruled.by.shared.lots;
            };
            seats = λ j u at_j. let seat = t.seats j u at_j in seat_then parts' u seat.0 seat.1;
            held = record {
              count = t.held.count;
              fits = t.held.fits;
              of = parts_then parts' t.held.of;
              own = t.held.own;
              kept = λ place' part at_place shard. subst (m.keeps part) (sym archived_then) (t.held.kept place' part at_place shard);
            };
            file = λ place' part at_place file.
                (let old = t.file place' part at_place file in
                let recovered = old.recovered in
                record {
                  clock = old.clock;
                  faults = old.faults;
                  spent = λ is. let both = old.spent is in (both.0, subst (λ f. 0 < f) (sym flag_then) both.1);
                  recovered = record { upto = recovered.upto; written = λ p less. written_then p (recovered.written p less); recovers = recovered.recovers };
                });
            home = t.home;
            pinned = t.pinned;
          }

      -- each seat but the one, over parts of which it says the same
      pub seats_then : {parts' : List P} → IsSeat m key log s.words parts' view_then
          → ((j : ℕ) (u : SeatView P) → (j ≡ i → ⊥) → get_elem? s.views j ≡ some u → IsSeat m key log s.words parts' u)
          → (j : ℕ) (u : SeatView P) → get_elem? views_then j ≡ some u → (u.core.seen ≤ length log) × IsSeat m key log s.words parts' u
      seats_then {parts'} one others j u at_j =
          ⊎_elim
          (λ here. subst (λ z. (z.core.seen ≤ length log) × IsSeat m key log s.words parts' z) here.1
          (seen_within m laws key s log parts ruled.by i d ruled.there i d ruled.there, one))
          (λ other. (seen_within m laws key s log parts ruled.by i d ruled.there j u other.1, others j u other.0 other.1))
          (lookup-set s.views i j view_then u at_j)
