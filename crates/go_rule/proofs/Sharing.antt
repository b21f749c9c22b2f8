-- A seat is split in two, and two seats are joined: no word changes, and the rule is kept.
use Rattle.std.proofs.Common.{◌≡◌, ℕ, ◌+◌, ◌<◌, ◌≤◌, true, false, List, [], ◌∷◌, ◌++◌, set, sym, refl, ap, ◌∙◌, ⊎_elim, arith, subst}
use Rattle.std.specs.Prelude.{Some, slice_get, slice_index, sum_by, Option as Maybe}
use Rattle.std.proofs.lemmas.Bool.{false≢true}
use Rattle.std.proofs.lemmas.List.{map-set, map-append}
use Rattle.std.proofs.lemmas.List.Sums.{sum_by_push}
use Rattle.std.proofs.lemmas.List.Elements.{All-nil}
use mathlib.Core.Option.{some}
use lib.ListN.{get_elem?}
use Rattle.atomic_table.specs.Table.{State, Splits}
use Rattle.go_word.specs.declared.edge.Edge.{Edge}
use Rattle.go_core.specs.declared.view.View.{View}
use Rattle.go_core.specs.View.{unfilled}
use Rattle.go_core.specs.Rule.{owed, IsWritten, TiedBy}
use Rattle.go_core.specs.Parts.{IsReached, IsTurn, IsPinnedBy}
use Rattle.go_core.proofs.Totals.{total-set}
use Rattle.go_core.proofs.Lookups.{lookup-set, lookup-last}
use Rattle.go_core.proofs.Onward.{written_same}
use Rattle.go_core.proofs.Claims.{All-lookup}
use Rattle.go_core.proofs.Loads.{still_live}
use Rattle.go_core.proofs.Splits.{shared_out}
use Rattle.go_core.proofs.PartLaws.{parts_onward}
use Rattle.go_core.proofs.Parted.{reached_set}
use Rattle.go_core.proofs.TurnLaws.{turn_same, turn_more}
use Rattle.go_core.proofs.Pinned.{pinned_set, pinned_more}
use Rattle.go_rule.specs.declared.layout.Key.{Key}
use Rattle.go_rule.specs.declared.view.Note.{Note}
use Rattle.go_rule.specs.declared.view.SeatView.{SeatView}
use Rattle.go_rule.specs.Meaning.{Meaning, IsLasting}
use Rattle.go_rule.specs.Views.{frame_of, sharing, shared}
use Rattle.go_rule.specs.Rule.{Begins, cores, has_note, pins_at, StandsFrom, IsSeat, IsPinned, IsRuledBy, IsRuled}
use Rattle.go_rule.proofs.Beside.{core_there}

module _ {P : Type 0} (m : Meaning P) (laws : IsLasting m) (key : Key P) where
  module _ (s : State (Maybe P) (SeatView P)) (log : List Edge) (parts : List P) (by : IsRuledBy m key s log parts) where
    -- the seats share anew what they have
    pub record Reseated (views' : List (SeatView P)) : Type 0 where
      pub tied : TiedBy (frame_of key) log s.words (cores views')
      pub written : (p : ℕ) → IsWritten log (cores s.views) p → IsWritten log (cores views') p
      pub reached : (front : ℕ) → IsReached (cores s.views) front → IsReached (cores views') front
      pub quotas : sum_by (λ (d : SeatView P). d.share.quota) views' ≡ sum_by (λ (d : SeatView P). d.share.quota) s.views
      pub lots : sum_by (λ (d : SeatView P). d.share.lot) views' ≡ sum_by (λ (d : SeatView P). d.share.lot) s.views
      pub seats : (i : ℕ) (d : SeatView P) → get_elem? views' i ≡ some d → IsSeat m key log s.words parts d
      pub turns : (place : ℕ) → place ≤ key.layout.shards → IsTurn (has_note place) (slice_index s.words (4 + place)) views'
      pub pinned : IsPinned m key views' parts

    pub reseated_keeps : (views' : List (SeatView P)) → Reseated views' →
        IsRuledBy m key (record { words = s.words; homes = s.homes; views = views' }) log parts
    reseated_keeps views' r =
        record {
          tied = r.tied;
          logged = by.logged;
          shared = record {
            quotas = let old = by.shared.quotas in let same = r.quotas in omega arith;
            lots = r.lots ∙ by.shared.lots;
          };
          seats = r.seats;
          held = record {
            count = by.held.count;
            fits = by.held.fits;
            of = parts_onward m.state_of (StandsFrom m key) (frame_of key) log log s.words (cores s.views) (cores views') parts (λ part old. old) r.written
                r.reached by.held.of;
            own = by.held.own;
            kept = by.held.kept;
          };
          file = λ place part at_place file.
              (let old = by.file place part at_place file in
              let recovered = old.recovered in
              record {
                clock = old.clock;
                faults = old.faults;
                spent = old.spent;
                recovered = record { upto = recovered.upto; written = λ p less. r.written p (recovered.written p less); recovers = recovered.recovers };
              });
          home = record { turn = r.turns; at_home = by.home.at_home };
          pinned = r.pinned;
        }

  -- a seat is split
  module _ (s : State (Maybe P) (SeatView P)) (log : List Edge) (parts : List P) (by : IsRuledBy m key s log parts) (i : ℕ) (d : SeatView P)
      (there : get_elem? s.views i ≡ some d) (live : d.core.live ≡ true) where
    split_reseated : (quota lot : ℕ) → quota ≤ d.share.quota → 1 ≤ lot → lot < d.share.lot
        → Reseated s log parts by (set s.views i (sharing quota lot d) ++ shared quota lot d ∷ [])
    split_reseated quota lot enough some' less =
        let left = sharing quota lot d in
        let right = shared quota lot d in
        let views' = set s.views i left ++ right ∷ [] in
        let vs = cores s.views in
        let core = core_there m laws key s log parts by i d there in
        let same : cores views' ≡ set vs i left.core ++ right.core ∷ [] =
        map-append (λ (z : SeatView P). z.core) (set s.views i left) (right ∷ [])
        ∙ ap (λ zs. zs ++ right.core ∷ []) (map-set (λ (z : SeatView P). z.core) s.views i left)
        in
        let total : (g : SeatView P → ℕ) → g left + g right ≡ g d → sum_by g views' ≡ sum_by g s.views = λ g share.
        (let e : sum_by g (set s.views i left) + g d ≡ sum_by g s.views + g left = total-set g s.views i d left there in
        let push : sum_by g views' ≡ sum_by g (set s.views i left) + g right = sum_by_push g (set s.views i left) right in
        omega arith)
        in
        let owe : (p : ℕ) → owed (set vs i left.core ++ right.core ∷ []) p ≡ owed vs p = λ p.
        (let e : owed (set vs i left.core) p + unfilled p d.core ≡ owed vs p + unfilled p left.core = total-set (unfilled p) vs i d.core left.core core in
        let push : owed (set vs i left.core ++ right.core ∷ []) p ≡ owed (set vs i left.core) p + unfilled p right.core =
        sum_by_push (unfilled p) (set vs i left.core) right.core in
        omega arith)
        in
        let seat = by.seats i d there in
        let told = seat.told in
        record {
          tied = subst (TiedBy (frame_of key) log s.words) (sym same) (shared_out (frame_of key) log s.words vs i d.core core live by.tied);
          written = λ p old. subst (λ zs. IsWritten log zs p) (sym same) (written_same log vs (set vs i left.core ++ right.core ∷ []) p (owe p) old);
          reached = λ front old.
              subst (λ zs. IsReached zs front) (sym same)
              (λ j u at_j role.
              ⊎_elim (λ before. reached_set vs i d.core left.core core (λ is. (is, omega arith)) front old j u before role)
              (λ new. absurd (false≢true (ap (λ (z : View). z.archives) new ∙ role))) (lookup-last (set vs i left.core) right.core u j at_j));
          quotas = total (λ (z : SeatView P). z.share.quota) (omega arith);
          lots = total (λ (z : SeatView P). z.share.lot) (omega arith);
          seats = λ j u at_j.
              ⊎_elim
              (λ before.
              ⊎_elim
              (λ here.
              subst (IsSeat m key log s.words parts) here.1
              (record {
                ended = λ dead. still_live d.core _ live dead;
                about = seat.about;
                told = told;
                lot = λ _. omega arith;
                kept = seat.kept;
                noted = seat.noted;
                stood = seat.stood;
              }))
              (λ other. by.seats j u other.1) (lookup-set s.views i j left u before))
              (λ new.
              subst (IsSeat m key log s.words parts) new
              (record {
                ended = λ dead. still_live d.core _ live dead;
                about = seat.about;
                told = record { seen_is = told.seen_is; heard = All-nil (Begins log); passed = told.passed; raised = told.raised };
                lot = λ _. some';
                kept = seat.kept;
                noted = All-nil (λ (n : Note P). slice_get parts n.place ≡ Some n.part);
                stood = seat.stood;
              }))
              (lookup-last (set s.views i left) right u j at_j);
          turns = λ place within.
              turn_more (has_note place) (set s.views i left) right (slice_index s.words (4 + place)) refl
              (turn_same (has_note place) s.views i d left (slice_index s.words (4 + place)) there refl (by.home.turn place within));
          pinned = λ place part at_place shard.
              (let held = (m.state_of part).pins in
              let old = by.pinned place part at_place shard in
              pinned_more (pins_at place) (λ z. []) (λ z. false) held (set s.views i left) right refl refl
              (pinned_set (pins_at place) (λ z. []) (λ z. false) held s.views i d left there
              (let one : IsPinnedBy (pins_at place) (λ z. []) (λ z. false) held d =
              All-lookup (IsPinnedBy (pins_at place) (λ z. []) (λ z. false) held) s.views i d old.each there in
              record { pinned = one.pinned; none_put = one.none_put })
              (λ id owns. owns) old));
        }

  pub split_allowed : (id : ℕ) (d : SeatView P) (quota lot : ℕ) → d.core.live ≡ true → quota ≤ d.share.quota → 1 ≤ lot → lot < d.share.lot
      → Splits (IsRuled m key) id d (sharing quota lot d) (shared quota lot d)
  split_allowed id d quota lot live enough some' less s holds there =
      record {
        log = holds.log;
        parts = holds.parts;
        by = reseated_keeps s holds.log holds.parts holds.by _ (split_reseated s holds.log holds.parts holds.by id d there live quota lot enough some' less);
      }
