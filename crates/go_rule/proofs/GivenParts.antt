-- The parts of a ring after one of them was given back: each is as it has to be, and what seats know of them lasts.
use Rattle.std.proofs.Common.{◌≡◌, ◌⊎◌, ℕ, ◌<◌, ◌≤◌, false, List, ◌++◌, length, set, take, drop, sym, refl, ap, ◌∙◌, inl, inr}
use Rattle.std.proofs.Common.{⊎_elim, arith, subst}
use Rattle.std.specs.Prelude.{All, Some, slice_get, find, is_some, max, ◌==◌, Option as Maybe}
use Rattle.std.proofs.lemmas.Bool.{cases_eq, true≢false}
use Rattle.std.proofs.lemmas.List.{length-take-le, take-take, take-append-drop, length-set}
use Rattle.std.proofs.lemmas.List.Elements.{All-head}
use Rattle.atomic_table.specs.Table.{State, Me}
use Rattle.go_word.specs.declared.edge.Edge.{Edge}
use Rattle.go_core.specs.Frame.{archived_in}
use Rattle.go_core.specs.Rule.{IsWritten}
use Rattle.go_core.specs.Parts.{IsShardPlace, IsFilePlace, ArePartsOf, reach_of}
use Rattle.go_core.proofs.Moved.{within_log}
use Rattle.go_core.proofs.Loads.{below_max}
use Rattle.go_core.proofs.PartLaws.{shard_put, file_put, reach_reached, reach_taken}
use Rattle.go_rule.specs.declared.layout.Key.{Key}
use Rattle.go_rule.specs.declared.view.About.{About}
use Rattle.go_rule.specs.declared.view.Note.{Note}
use Rattle.go_rule.specs.declared.view.Stand.{Stand}
use Rattle.go_rule.specs.declared.view.SeatView.{SeatView}
use Rattle.go_rule.specs.Meaning.{Meaning, IsLasting}
use Rattle.go_rule.specs.Views.{frame_of, about_of}
use Rattle.go_rule.specs.Rule.{Begins, cores, StandsFrom, HasStood, AreHeld, IsFile}
use Rattle.go_rule.specs.Turns.{mark_in, owns_at, HasPart}
use Rattle.go_rule.proofs.Lists.{get_set, get_set_other, same_number, none_passes, all_both}
use Rattle.go_rule.proofs.Beside.{IsRuledSeat, core_there, seen_within}
use Rattle.go_rule.proofs.Renewals.{sees_on}

module _ {P : Type 0} (m : Meaning P) (laws : IsLasting m) (key : Key P) where
  module _ (s : State (Maybe P) (SeatView P)) (log : List Edge) (parts : List P) (i : ℕ) (me : Me (Maybe P) (SeatView P))
      (ruled : IsRuledSeat m key s log parts i me.0) (place : ℕ) (within : place ≤ key.layout.shards) (has : HasPart m (frame_of key) place me) where
    -- the parts as they are then
    abbrev parts_given : List P
    parts_given = set parts place has.new

    about_given : me.0.about ≡ about_of (m.mark_of key.file.value) key
    about_given = (ruled.by.seats i me.0 ruled.there).about ruled.live

    -- what was taken stands in the list of parts
    pub old_there : slice_get parts place ≡ Some has.old
    old_there =
        All-head (λ (n : Note P). slice_get parts n.place ≡ Some n.part) (record { place = place; part = has.old }) has.older
        (subst (All (λ (n : Note P). slice_get parts n.place ≡ Some n.part)) has.is.noted (ruled.by.seats i me.0 ruled.there).noted)

    shard_or_file : IsShardPlace (frame_of key) place ⊎ IsFilePlace (frame_of key) place
    shard_or_file = ⊎_elim (λ (is : place ≡ key.layout.shards). inr (omega arith)) (λ ne. inl (omega arith)) (cases_eq place key.layout.shards)

    front_rises : (m.state_of has.old).front ≤ (m.state_of has.new).front
    front_rises =
        ⊎_elim (λ shard. (has.can.shard shard).successor.onward.front_from) (λ file. (has.can.file file).successor.front_from) shard_or_file

    -- all that the seat has seen begins the log
    seen_begins : Begins log me.0.told.seen
    seen_begins =
        let told = (ruled.by.seats i me.0 ruled.there).told.seen_is in
        told ∙ ap (λ n. take n log) (sym (ap length told ∙ length-take-le me.0.core.seen log (seen_within m laws key s log parts ruled.by i me.0 ruled.there i
        me.0
        ruled.there)))

    stands_given : StandsFrom m key has.new log
    stands_given =
        subst (λ (a : About). m.stands_for has.new a.first log) about_given
        (has.can.stands log seen_begins
        (subst (λ (a : About). m.stands_for has.old a.first log) (sym about_given) (ruled.by.held.of.of_log place has.old old_there).stands))

    seen_written : (p : ℕ) → p < me.0.core.seen → IsWritten log (cores s.views) p
    seen_written = (ruled.by.tied.seated i me.0.core (core_there m laws key s log parts ruled.by i me.0 ruled.there)).sees.written

    -- the parts stand for the log
    of_given : ArePartsOf m.state_of (StandsFrom m key) (frame_of key) log s.words (cores s.views) parts_given
    of_given =
        let core = core_there m laws key s log parts ruled.by i me.0 ruled.there in
        let seated = ruled.by.tied.seated i me.0.core core in
        let taken = seated.takes.to in
        let reach = reach_taken me.0.core.archives me.0.core.taken in
        ⊎_elim
        (λ shard.
        shard_put m.state_of (StandsFrom m key) (frame_of key) log s.words (cores s.views) parts place has.old has.new old_there ruled.by.held.of shard
        stands_given
        (record {
          reach = reach_of me.0.core;
          known = me.0.core.archived;
          own = owns_at place me.0;
          known_to = seated.knows.archived_to;
          written = λ p less. seen_written p (omega arith);
          reached = reach_reached (cores s.views) i me.0.core core ruled.by.tied.one_archiver;
          is = (has.can.shard shard).successor;
        }))
        (λ file.
        file_put m.state_of (StandsFrom m key) (frame_of key) log s.words (cores s.views) parts place has.old has.new old_there ruled.by.held.of file
        stands_given
        (record { taken = me.0.core.taken; written = λ p less. seen_written p (omega arith); is = (has.can.file file).successor }))
        shard_or_file

    -- what shards told of at a front they still tell of, where they aren't cut off there
    pub kept_given : (front : ℕ)
        → ((place' : ℕ) (part : P) → slice_get parts place' ≡ Some part → IsShardPlace (frame_of key) place' → (m.state_of part).cut ≤ front
        → m.keeps part front)
        → (place' : ℕ) (part : P) → slice_get parts_given place' ≡ Some part → IsShardPlace (frame_of key) place' → (m.state_of part).cut ≤ front
        → m.keeps part front
    kept_given front before place' part at' shard cut =
        ⊎_elim
        (λ here.
        let shard' : IsShardPlace (frame_of key) place = subst (IsShardPlace (frame_of key)) here.0 shard in
        let give = has.can.shard shard' in
        let cut' : (m.state_of has.new).cut ≤ front = subst (λ z. (m.state_of z).cut ≤ front) (sym here.1) cut in
        let up = give.successor.onward.cut_from in
        subst (λ z. m.keeps z front) here.1 (give.kept front cut' (before place has.old old_there shard' (omega arith))))
        (λ other. before place' part other.1 shard cut) (get_set parts place place' has.new part at')

    -- parts in another hand are where they were
    pub noted_given : (notes : List (Note P)) → is_some (find (λ (n : Note P). n.place == place) notes) ≡ false
        → All (λ (n : Note P). slice_get parts n.place ≡ Some n.part) notes → All (λ (n : Note P). slice_get parts_given n.place ≡ Some n.part) notes
    noted_given notes none are =
        all_both (λ (n : Note P). (n.place == place) ≡ false) (λ (n : Note P). slice_get parts n.place ≡ Some n.part)
        (λ (n : Note P). slice_get parts_given n.place ≡ Some n.part)
        (λ n other at'.
        get_set_other parts place n.place has.new (λ e. true≢false (sym (ap (λ q. q == place) e ∙ same_number place) ∙ other)) ∙ at')
        notes (none_passes (λ (n : Note P). n.place == place) notes none) are

    -- where parts stood, they stood
    pub stood_given : (x : Stand) → HasStood m (frame_of key) parts x → HasStood m (frame_of key) parts_given x
    stood_given x stood =
        record {
          reached = λ part at'.
              ⊎_elim
              (λ here.
              let up = front_rises in
              let was = stood.reached has.old (ap (slice_get parts) here.0 ∙ old_there) in
              subst (λ z. x.front ≤ (m.state_of z).front) here.1 (omega arith))
              (λ other. stood.reached part other.1) (get_set parts place x.place has.new part at');
          kept = λ part at' shard cut.
              ⊎_elim
              (λ here.
              let shard' : IsShardPlace (frame_of key) place = subst (IsShardPlace (frame_of key)) here.0 shard in
              let give = has.can.shard shard' in
              let cut' : (m.state_of has.new).cut ≤ x.front = subst (λ z. (m.state_of z).cut ≤ x.front) (sym here.1) cut in
              let up = give.successor.onward.cut_from in
              subst (λ z. m.keeps z x.front) here.1
              (give.kept x.front cut' (stood.kept has.old (ap (slice_get parts) here.0 ∙ old_there) shard (omega arith))))
              (λ other. stood.kept part other.1 shard cut) (get_set parts place x.place has.new part at');
        }

    -- where the part stands now
    pub stands_now : HasStood m (frame_of key) parts_given (record { place = place; front = (m.state_of has.new).front })
    stands_now =
        record {
          reached = λ part at'.
              subst (λ z. (m.state_of has.new).front ≤ (m.state_of z).front) (is_new part at') (omega arith);
          kept = λ part at' shard cut. subst (λ z. m.keeps z (m.state_of has.new).front) (is_new part at') (has.can.shard shard).own;
        }
      where
        is_new : (part : P) → slice_get parts_given place ≡ Some part → has.new ≡ part
        is_new part at' = ⊎_elim (λ here. here.1) (λ other. absurd (other.0 refl)) (get_set parts place place has.new part at')

    -- the file is as it has to be
    pub file_given : IsFilePlace (frame_of key) place → IsFile m key log s.words (cores s.views) has.new
    file_given file =
        let give = has.can.file file in
        let was = ruled.by.file place has.old old_there file in
        let seat = ruled.by.seats i me.0 ruled.there in
        let recovered = was.recovered in
        let upto : ℕ = recovered.upto in
        let seen : ℕ = me.0.core.seen in
        let far : List Edge = take (max seen upto) log in
        let old_clock = was.clock in
        let old_faults = was.faults in
        let new_clock = give.clock in
        let new_faults = give.faults in
        let faults : me.0.about.faults ≡ (m.mark_of key.file.value).faults = ap (λ (a : About). a.faults) about_given in
        let to = within_log log (cores s.views) upto recovered.written in
        let sees = sees_on log me.0.told.seen seen upto seat.told.seen_is (seen_within m laws key s log parts ruled.by i me.0 ruled.there i me.0 ruled.there)
        to in
        let longer : take upto log ++ drop upto far ≡ far =
        ap (λ xs. xs ++ drop upto far) (sym (take-take upto (max seen upto) log (omega arith))) ∙ take-append-drop upto far
        in
        record {
          clock = omega arith;
          faults = omega arith;
          spent = λ gone. (let both = give.spent gone in let rose = both.0 in (omega arith, seat.told.raised both.1));
          recovered = record {
            upto = max seen upto;
            written = λ p less. ⊎_elim (λ one. seen_written p one) (λ two. recovered.written p two) (below_max p seen upto less);
            recovers = subst (λ (a : About). m.recovers has.new far a.vertices a.first (mark_in a)) about_given
                (give.recovers far sees.begins
                (subst (λ (a : About). m.recovers has.old far a.vertices a.first (mark_in a)) (sym about_given)
                (subst (λ l. m.recovers has.old l key.layout.vertices key.first (m.mark_of key.file.value)) longer
                (laws.recovers_on has.old (take upto log) (drop upto far) key.layout.vertices key.first (m.mark_of key.file.value) recovered.recovers))));
          };
        }

    -- the parts are as they have to be
    pub held_given : AreHeld m key log s.words (cores s.views) parts_given
    held_given =
        record {
          count = length-set parts place has.new ∙ ruled.by.held.count;
          fits = λ place' part at'.
              ⊎_elim
              (λ here.
              subst (λ q. m.fits part q key.layout.shards key.layout.vertices) (sym here.0)
              (subst (λ z. m.fits z place key.layout.shards key.layout.vertices) here.1
              (subst (λ (a : About). m.fits has.new place a.shards a.vertices) about_given has.can.fits)))
              (λ other. ruled.by.held.fits place' part other.1) (get_set parts place place' has.new part at');
          of = of_given;
          own = λ place' part at' shard.
              ⊎_elim
              (λ here. subst (λ z. m.keeps z (m.state_of z).front) here.1 (has.can.shard (subst (IsShardPlace (frame_of key)) here.0 shard)).own)
              (λ other. ruled.by.held.own place' part other.1 shard) (get_set parts place place' has.new part at');
          kept = λ place' part at' shard.
              (let cut = (of_given.shards place' part at' shard).cut_to in
              kept_given (archived_in s.words) (λ q z there' shard' _. ruled.by.held.kept q z there' shard') place' part at' shard cut);
        }
