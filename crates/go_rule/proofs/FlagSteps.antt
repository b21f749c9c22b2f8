-- Loads and stores of the flag, and entries that are given up, keep the rule.
use Rattle.std.proofs.Common.{◌≡◌, ℕ, ◌+◌, ◌^◌, ◌<◌, ◌≤◌, Bool, true, false, List, [], set, sym, refl, ap, ⊎_elim, arith, subst}
use Rattle.std.specs.Prelude.{Contains, slice_index, count_by, nat_lt, ◌||◌, Option as Maybe}
use Rattle.std.proofs.lemmas.Bool.{cases_Bool, or_cases}
use Rattle.std.proofs.lemmas.Bool.Decides.{nat_tests}
use Rattle.atomic_table.specs.Table.{State, Step, Allows, Me}
use Rattle.go_word.specs.declared.edge.Edge.{Edge}
use Rattle.go_core.specs.declared.entry.Entry.{Entry}
use Rattle.go_core.specs.declared.view.View.{View}
use Rattle.go_core.specs.Acts.{IsCause}
use Rattle.go_core.specs.Frame.{archived_in, durable_in, flag_in}
use Rattle.go_core.specs.View.{spent, unmoved, raising, abandoning}
use Rattle.go_core.proofs.Totals.{bit_of, term-le}
use Rattle.go_core.proofs.Moved.{four_there, word_here, word_other}
use Rattle.go_core.proofs.Loads.{unmoved_keeps}
use Rattle.go_core.proofs.Flags.{flag_stored}
use Rattle.go_core.proofs.Abandoned.{abandon_keeps, abandoned_owes}
use Rattle.go_rule.specs.declared.layout.Key.{Key}
use Rattle.go_rule.specs.declared.view.SeatView.{SeatView}
use Rattle.go_rule.specs.Meaning.{Meaning, IsLasting}
use Rattle.go_rule.specs.Views.{frame_of, with_flag, with_raised, with_abandoned}
use Rattle.go_rule.specs.Rule.{cores, IsRuled}
use Rattle.go_rule.specs.Steps.{LoadsFlag, StoresFlag, Abandons}
use Rattle.go_rule.proofs.Beside.{IsRuledSeat, Rises, core_there, Beside, allowed}
use Rattle.go_rule.proofs.Alone.{only_core}
use Rattle.go_rule.proofs.Renewals.{renewed_beside, read_beside, told_now, old_kept}

module _ {P : Type 0} (m : Meaning P) (laws : IsLasting m) (key : Key P) where
  module _ (s : State (Maybe P) (SeatView P)) (log : List Edge) (parts : List P) (i : ℕ) (d : SeatView P) (ruled : IsRuledSeat m key s log parts i d) where
    -- a number that isn't none is above it
    above : (n : ℕ) → nat_lt 0 n ≡ true → 0 < n
    above n is = grind (arith, nat_tests)

    flag_beside : (k : ℕ) → Beside m laws key s log parts ruled.by i d ruled.there (with_flag (flag_in s.words) d) (set s.words k (slice_index s.words k)) []
    flag_beside k =
        let told = told_now m laws key s log parts i d ruled in
        read_beside m laws key s log parts i d ruled k (unmoved d.core) (record d.told { flagged = d.told.flagged || nat_lt 0 (flag_in s.words) })
        (record {
          lives = ruled.live;
          tied = unmoved_keeps (frame_of key) log s.words (cores s.views) i d.core (core_there m laws key s log parts ruled.by i d ruled.there) ruled.live
              ruled.by.tied;
          less = λ q. omega arith;
          goes_on = λ role. (role, omega arith);
          told = record {
            seen_is = told.seen_is;
            heard = told.heard;
            passed = told.passed;
            raised = λ is. ⊎_elim (λ before. told.raised before) (λ now. above (flag_in s.words) now) (or_cases d.told.flagged (nat_lt 0 (flag_in s.words)) is);
          };
          kept = old_kept m laws key s log parts i d ruled;
        })

    abandon_beside : (k : ℕ) (x : Entry) → Contains d.core.pending x → d.told.flagged ≡ true
        → Beside m laws key s log parts ruled.by i d ruled.there (with_abandoned x d) (set s.words k (slice_index s.words k)) []
    abandon_beside k x pending flagged =
        let told = told_now m laws key s log parts i d ruled in
        read_beside m laws key s log parts i d ruled k (abandoning x d.core) d.told
        (record {
          lives = ruled.live;
          tied = abandon_keeps (frame_of key) log s.words (cores s.views) i d.core x (core_there m laws key s log parts ruled.by i d ruled.there) ruled.live
              pending
              (told.raised flagged) ruled.by.tied;
          less = λ q. let same = abandoned_owes q x d.core pending in omega arith;
          goes_on = λ role. (role, omega arith);
          told = told;
          kept = old_kept m laws key s log parts i d ruled;
        })

    -- a cause that counts in none of the views is none of this one's
    none_of : (g : View → Bool) → count_by g (cores s.views) ≡ 0 → g d.core ≡ false
    none_of g none =
        let mine : bit_of (g d.core) ≤ count_by g (cores s.views) = term-le (λ z. bit_of (g z)) (cores s.views) i d.core
        (core_there m laws key s log parts ruled.by i d ruled.there) in
        ⊎_elim (λ (is : g d.core ≡ true). let one : bit_of (g d.core) ≡ 1 = ap bit_of is in absurd (omega arith)) (λ no'. no') (cases_Bool (g d.core))

    -- a cause that counts is this one's, where it has the whole lot
    mine_of : (g : View → Bool) → g spent ≡ false → d.share.lot ≡ 2 ^ 32 → 0 < count_by g (cores s.views) → g d.core ≡ true
    mine_of g none whole some' =
        let all : count_by g (cores s.views) ≡ bit_of (g d.core) = only_core m laws key s log parts ruled.by i d ruled.there (λ z. bit_of (g z))
        (ap bit_of none) whole in
        ⊎_elim (λ is. is) (λ (no' : g d.core ≡ false). let nothing : bit_of (g d.core) ≡ 0 = ap bit_of no' in absurd (omega arith)) (cases_Bool (g d.core))

    raise_beside : (why : ℕ) → IsCause why → Beside m laws key s log parts ruled.by i d ruled.there (with_raised why d) (set s.words 3 why) []
    raise_beside why cause =
        let told = told_now m laws key s log parts i d ruled in
        let words' = set s.words 3 why in
        let core = core_there m laws key s log parts ruled.by i d ruled.there in
        let long = four_there (frame_of key) log s.words (cores s.views) ruled.by.tied in
        let large : 0 < why = ⊎_elim (λ (one : why ≡ 1). omega arith) (λ (two : why ≡ 2). omega arith) cause in
        let archived : archived_in words' ≡ archived_in s.words = word_other s.words 3 1 why (λ e. omega arith) in
        let durable : durable_in words' ≡ durable_in s.words = word_other s.words 3 2 why (λ e. omega arith) in
        let flag : flag_in words' ≡ why = word_here s.words 3 why (omega arith) in
        let rises : Rises s.words words' = record { archived = omega arith; durable = omega arith; flag = λ raised. omega arith } in
        renewed_beside m laws key s log parts i d ruled (raising why d.core) (record d.told { flagged = true }) words'
        (record {
          lives = ruled.live;
          tied = flag_stored (frame_of key) log s.words (cores s.views) i d.core why core ruled.live cause ruled.by.tied;
          less = λ q. omega arith;
          goes_on = λ role. (role, omega arith);
          told = record { seen_is = told.seen_is; heard = told.heard; passed = let old = told.passed in omega arith; raised = λ is. omega arith };
          kept = old_kept m laws key s log parts i d ruled;
        })
        (λ place within. word_other s.words 3 (4 + place) why (λ e. omega arith))
        (record {
          rises = rises;
          shards = λ place part at_place shard. subst (λ n. n ≤ (m.state_of part).front) (sym archived)
              (ruled.by.held.of.shards place part at_place shard).archived_to;
          kept = λ place part at_place shard. subst (m.keeps part) (sym archived) (ruled.by.held.kept place part at_place shard);
          file = λ place part at_place file. subst (λ n. n ≤ (m.state_of part).front) (sym durable) (ruled.by.held.of.file place part at_place file);
        })

  module _ (slots id : ℕ) (me : Me (Maybe P) (SeatView P)) (live : me.0.core.live ≡ true) (step : Step (Maybe P)) where
    pub flag_allowed : Allows (IsRuled m key) slots id me 3 (λ n. n) (LoadsFlag step me)
    flag_allowed =
        allowed m laws key slots id me live 3 (λ n. n) (LoadsFlag step me)
        (λ s log parts ruled small.
        let flag = ruled.by.tied.flag in
        let told = (ruled.by.seats id me.0 ruled.there).told in (
          with_flag (flag_in s.words) me.0,
          [],
          flag_beside s log parts id me.0 ruled 3,
          record {
            becomes = refl;
            known = flag.known;
            none_raised = λ none. (
              none_of s log parts id me.0 ruled (λ v. v.disk_raised) (flag.none_disk none),
              none_of s log parts id me.0 ruled (λ v. v.memory_raised) (flag.none_memory none),
            );
            stays = told.raised;
            whole = λ whole. (
              (λ one. mine_of s log parts id me.0 ruled (λ v. v.disk_raised) refl whole (flag.disk one)),
              (λ two. mine_of s log parts id me.0 ruled (λ v. v.memory_raised) refl whole (flag.memory two)),
            );
          },
        ))

    pub raise_allowed : (why : ℕ) → IsCause why → Allows (IsRuled m key) slots id me 3 (λ _. why) (λ _. StoresFlag step me why)
    raise_allowed why cause =
        allowed m laws key slots id me live 3 (λ _. why) (λ _. StoresFlag step me why)
        (λ s log parts ruled small. (with_raised why me.0, [], raise_beside s log parts id me.0 ruled why cause, refl))

    pub abandon_allowed : (x : Entry) → Contains me.0.core.pending x → me.0.told.flagged ≡ true →
        Allows (IsRuled m key) slots id me 3 (λ n. n) (Abandons x step me)
    abandon_allowed x pending flagged =
        allowed m laws key slots id me live 3 (λ n. n) (Abandons x step me)
        (λ s log parts ruled small. (with_abandoned x me.0, [], abandon_beside s log parts id me.0 ruled 3 x pending flagged, refl))
