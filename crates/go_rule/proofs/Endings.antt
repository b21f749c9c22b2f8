-- A ring whose seats were all joined into one: the rule holds with that seat alone, and all parts are at home.
use Rattle.std.proofs.Common.{◌≡◌, ℕ, ◌+◌, ◌^◌, ◌≤◌, false, List, [], ◌∷◌, map, length, sym, refl, ap, ◌∙◌, arith, subst}
use Rattle.std.specs.Prelude.{Some, slice_get, sum_by, count_by, find, is_some, ◌==◌, Option as Maybe}
use mathlib.Core.Option.{some}
use lib.ListN.{get_elem?}
use Rattle.atomic_table.specs.Table.{State, Final, Seen}
use Rattle.go_word.specs.declared.edge.Edge.{Edge}
use Rattle.go_core.specs.declared.view.View.{View}
use Rattle.go_core.specs.Frame.{head_in, archived_in, durable_in, flag_in}
use Rattle.go_core.specs.View.{unfilled, stands, spent}
use Rattle.go_core.specs.Rule.{Seated, TiedBy}
use Rattle.go_core.specs.Parts.{IsPinnedBy}
use Rattle.go_core.specs.Pins.{owns_name}
use Rattle.go_core.proofs.Totals.{bit_of}
use Rattle.go_core.proofs.Onward.{written_same}
use Rattle.go_core.proofs.Moved.{regrouped, flag_kept}
use Rattle.go_core.proofs.Claims.{All-lookup}
use Rattle.go_rule.specs.declared.layout.Key.{Key}
use Rattle.go_rule.specs.declared.view.Note.{Note}
use Rattle.go_rule.specs.declared.view.SeatView.{SeatView}
use Rattle.go_rule.specs.Meaning.{Meaning, IsLasting}
use Rattle.go_rule.specs.Views.{frame_of, spent_view}
use Rattle.go_rule.specs.Rule.{cores, has_note, pins_at, IsSeat, IsRuledBy, IsRuled}
use Rattle.go_rule.specs.Closing.{IsClosed}
use Rattle.go_rule.proofs.Lists.{get_within, only, sum_one, all_there}
use Rattle.go_rule.proofs.Beside.{core_there}
use Rattle.go_rule.proofs.Alone.{total_only, alone, only_core}
use Rattle.go_rule.proofs.Sharing.{Reseated, reseated_keeps}
use Rattle.std.proofs.lemmas.List.Elements.{All-cons, All-nil}

module _ {P : Type 0} (m : Meaning P) (laws : IsLasting m) (key : Key P) where
  module _ (s : State (Maybe P) (SeatView P)) (log : List Edge) (parts : List P) (by : IsRuledBy m key s log parts) (i : ℕ) (d : SeatView P)
      (there : get_elem? s.views i ≡ some d) (whole : d.share.lot ≡ 2 ^ 32) where
    -- a count over the core views, and one over the views
    core_sum : (g : View → ℕ) → g spent ≡ 0 → sum_by g (d.core ∷ []) ≡ sum_by g (cores s.views)
    core_sum g none = sum_one g d.core ∙ sym (only_core m laws key s log parts by i d there g none whole)

    seat_sum : (g : SeatView P → ℕ) → g spent_view ≡ 0 → sum_by g (d ∷ []) ≡ sum_by g s.views
    seat_sum g none =
        sum_one g d ∙ sym (total_only g s.views i d there (λ j u ne at_j. ap g (alone m laws key s log parts by i d there whole j u ne at_j) ∙ none))

    left_tied : TiedBy (frame_of key) log s.words (d.core ∷ [])
    left_tied =
        let vs = cores s.views in
        let disk = core_sum (λ v. bit_of v.disk_raised) refl in
        let memory = core_sum (λ v. bit_of v.memory_raised) refl in
        regrouped (frame_of key) log s.words vs (d.core ∷ [])
        (record {
          owed = λ p. core_sum (unfilled p) refl;
          stand = λ p. core_sum (stands p) refl;
          archivers = let same = core_sum (λ v. bit_of v.archives) refl in omega arith;
          flushers = let same = core_sum (λ v. bit_of v.flushes) refl in omega arith;
        })
        (flag_kept (flag_in s.words) vs (d.core ∷ []) (λ none. disk ∙ none) (λ some'. omega arith) (λ none. memory ∙ none) (λ some'. omega arith) by.tied.flag)
        (λ j u at_j.
        subst (Seated (frame_of key) log s.words vs) (only d.core u j at_j) (by.tied.seated i d.core (core_there m laws key s log parts by i d there))) by.tied

    left_reseated : Reseated m laws key s log parts by (d ∷ [])
    left_reseated =
        let vs = cores s.views in
        record {
          tied = left_tied;
          written = λ p old. written_same log vs (d.core ∷ []) p (core_sum (unfilled p) refl) old;
          reached = λ front old j u at_j role.
              (let same = only d.core u j at_j in
              let mine = old i d.core (core_there m laws key s log parts by i d there) (ap (λ (z : View). z.archives) same ∙ role) in
              subst (λ (z : View). front ≤ z.taken) same mine);
          quotas = seat_sum (λ (z : SeatView P). z.share.quota) refl;
          lots = seat_sum (λ (z : SeatView P). z.share.lot) refl;
          seats = λ j u at_j. subst (IsSeat m key log s.words parts) (only d u j at_j) (by.seats i d there);
          turns = λ place within.
              (let old = by.home.turn place within in
              let same = seat_sum (λ (z : SeatView P). bit_of (has_note place z)) refl in
              record { counts = same ∙ old.counts; one = old.one });
          pinned = λ place part at_place shard.
              (let old = by.pinned place part at_place shard in
              let Q = IsPinnedBy (pins_at place) (λ (z : SeatView P). []) (λ z. false) (m.state_of part).pins in
              record {
                each = All-cons Q d [] (All-lookup Q s.views i d old.each there) (All-nil Q);
                apart = λ id. let same = seat_sum (λ (z : SeatView P). bit_of (owns_name id (pins_at place z) [])) refl in
                    let one = old.apart id in omega arith;
              });
        }

    -- the rule holds with it alone
    pub left_ruled : IsRuledBy m key (record { words = s.words; homes = s.homes; views = d ∷ [] }) log parts
    left_ruled = reseated_keeps m laws key s log parts by (d ∷ []) left_reseated

    -- and where it has no part in its hand, each part is at home
    pub left_home : d.stake.notes ≡ [] → (place : ℕ) (part : P) → slice_get parts place ≡ Some part → get_elem? s.homes place ≡ some (some (Some part))
    left_home notes place part at_place =
        let count = by.held.count in
        let less = get_within parts place part at_place in
        let turn = left_ruled.home.turn place (omega arith) in
        let none : count_by (has_note place) (d ∷ []) ≡ 0 = sum_one (λ (z : SeatView P). bit_of (has_note place z)) d
        ∙ ap (λ ns. bit_of (is_some (find (λ (n : Note P). n.place == place) ns))) notes in
        by.home.at_home place part at_place (sym turn.counts ∙ none)

    -- so the values in the table's slots are the parts
    pub left_parts : d.stake.notes ≡ [] → (xs : List (Maybe P)) → length xs ≡ 1 + key.layout.shards
        → ((k : ℕ) (y : Maybe P) → get_elem? s.homes k ≡ some (some y) → get_elem? xs k ≡ some y) → xs ≡ map Some parts
    left_parts notes xs long home =
        let count = by.held.count in
        all_there Some parts xs (omega arith) (λ k x at_k. home k (Some x) (left_home notes k x at_k))

  -- what a table that is closed by such a seat leaves
  pub record IsLeft (d : SeatView P) (words : List ℕ) (xs : List (Maybe P)) : Type 0 where
    pub parts : List P
    pub all : xs ≡ map Some parts
    pub closed : IsClosed m key d parts (head_in words) (archived_in words) (durable_in words)

  pub final_left : (id : ℕ) (d : SeatView P) (words : List ℕ) (xs : List (Maybe P)) → d.share.lot ≡ 2 ^ 32 → d.stake.notes ≡ []
      → length xs ≡ 1 + key.layout.shards
      → Final (Seen (IsRuled m key) id d) words xs → IsLeft d words xs
  final_left id d words xs whole notes long final =
      let s = final.0 in
      let ruled = final.1.0 in
      let there = final.1.1 in
      let same = final.2 in
      record {
        parts = ruled.parts;
        all = left_parts s ruled.log ruled.parts ruled.by id d there whole notes xs long final.4;
        closed = record {
          log = ruled.log;
          words = s.words;
          homes = s.homes;
          by = left_ruled s ruled.log ruled.parts ruled.by id d there whole;
          head_is = ap head_in same;
          archived_is = ap archived_in same;
          durable_is = ap durable_in same;
        };
      }
