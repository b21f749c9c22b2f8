-- A turn is given back with its part, which is a lawful successor of what was taken: the rule is kept.
use Rattle.std.proofs.Common.{◌≡◌, ◌≢◌, ℕ, ◌+◌, ◌≤◌, true, false, List, [], length, set, sym, refl, ap, ◌∙◌}
use Rattle.std.proofs.Common.{⊎_elim, arith, subst}
use Rattle.std.specs.Prelude.{All, Contains, Some, slice_get, slice_index, find, is_some, ◌==◌, Option as Maybe}
use Rattle.std.proofs.lemmas.Bool.{cases_Bool, cases_eq}
use Rattle.std.proofs.lemmas.List.Elements.{All-cons, All-tail, All-weaker}
use mathlib.Core.Option.{Option, some}
use lib.ListN.{get_elem?}
use Rattle.atomic_table.specs.Table.{State, Step, Me, Allows, gives, put_back}
use Rattle.go_word.specs.declared.edge.Edge.{Edge}
use Rattle.go_core.specs.Pins.{owns_name}
use Rattle.go_core.specs.Parts.{IsShardPlace, IsFilePlace, IsTurn, IsPinnedBy, ArePinned}
use Rattle.go_core.proofs.Lookups.{lookup-set_here, lookup-set_other}
use Rattle.go_core.proofs.Moved.{word_other}
use Rattle.go_core.proofs.Claims.{All-lookup}
use Rattle.go_core.proofs.Loads.{still_live}
use Rattle.go_core.proofs.TurnLaws.{turn_given, turn_same, not_two}
use Rattle.go_core.proofs.Pinned.{pinned_set}
use Rattle.go_rule.specs.declared.layout.Key.{Key}
use Rattle.go_rule.specs.declared.view.Note.{Note}
use Rattle.go_rule.specs.declared.view.SeatView.{SeatView}
use Rattle.go_rule.specs.Meaning.{Meaning, IsLasting}
use Rattle.go_rule.specs.Views.{frame_of}
use Rattle.go_rule.specs.Rule.{cores, has_note, pins_at, HasStood, IsSeat, IsFile, IsRuledBy, IsRuled}
use Rattle.go_rule.specs.Turns.{own_pins, giving, HasPart, GivesTurn}
use Rattle.go_rule.proofs.Lists.{get_set}
use Rattle.go_rule.proofs.Beside.{IsRuledSeat}
use Rattle.go_rule.proofs.Turning.{turn_reads, views_then, Turned, turned_keeps, seats_then}
use Rattle.go_rule.proofs.TurnTakes.{noted_here, noted_other}
use Rattle.go_rule.proofs.TurnPins.{pins_here, pins_else, pinned_given}
use Rattle.go_rule.proofs.GivenParts.{old_there, kept_given, noted_given, stood_given, stands_now, file_given, held_given}

module _ {P : Type 0} (m : Meaning P) (laws : IsLasting m) (key : Key P) where
  module _ (s : State (Maybe P) (SeatView P)) (log : List Edge) (parts : List P) (i : ℕ) (me : Me (Maybe P) (SeatView P))
      (ruled : IsRuledSeat m key s log parts i me.0) (place : ℕ) (within : place ≤ key.layout.shards) (has : HasPart m (frame_of key) place me) where
    -- the seat as it is then
    abbrev seat_given : SeatView P
    seat_given = giving (record { place = place; part = has.old }) has.older (m.state_of has.old) (m.state_of has.new) me.0

    has_it : has_note place me.0 ≡ true
    has_it = ap (λ ns. is_some (find (λ (n : Note P). n.place == place) ns)) has.is.noted ∙ noted_here place has.old has.older

    -- another seat doesn't have the part
    not_theirs : (j : ℕ) (u : SeatView P) → j ≢ i → get_elem? s.views j ≡ some u → has_note place u ≡ false
    not_theirs j u ne at_j =
        let turn = ruled.by.home.turn place within in
        let counts = turn.counts in
        let one = turn.one in
        ⊎_elim (λ theirs. absurd (not_two (has_note place) s.views i j me.0 u ne ruled.there at_j (omega arith) has_it theirs)) (λ free. free)
        (cases_Bool (has_note place u))

    others_given : (j : ℕ) (u : SeatView P) → j ≢ i → get_elem? s.views j ≡ some u → IsSeat m key log s.words (set parts place has.new) u
    others_given j u ne at_j =
        let seat = ruled.by.seats j u at_j in
        record {
          ended = seat.ended;
          about = seat.about;
          told = seat.told;
          lot = seat.lot;
          kept = λ alive. kept_given m laws key s log parts i me ruled place within has u.core.archived (seat.kept alive);
          noted = noted_given m laws key s log parts i me ruled place within has u.stake.notes (not_theirs j u ne at_j) seat.noted;
          stood = All-weaker (HasStood m (frame_of key) parts) (HasStood m (frame_of key) (set parts place has.new))
              (stood_given m laws key s log parts i me ruled place within has) u.stake.stood seat.stood;
        }

    own_given : IsSeat m key log s.words (set parts place has.new) seat_given
    own_given =
        let seat = ruled.by.seats i me.0 ruled.there in
        record {
          ended = λ dead. still_live me.0.core _ ruled.live dead;
          about = seat.about;
          told = seat.told;
          lot = seat.lot;
          kept = λ alive. kept_given m laws key s log parts i me ruled place within has me.0.core.archived (seat.kept ruled.live);
          noted = noted_given m laws key s log parts i me ruled place within has has.older has.is.once
              (All-tail (λ (n : Note P). slice_get parts n.place ≡ Some n.part) (record { place = place; part = has.old }) has.older
              (subst (All (λ (n : Note P). slice_get parts n.place ≡ Some n.part)) has.is.noted seat.noted));
          stood = All-cons (HasStood m (frame_of key) (set parts place has.new)) (record { place = place; front = (m.state_of has.new).front })
              me.0.stake.stood (stands_now m laws key s log parts i me ruled place within has)
              (All-weaker (HasStood m (frame_of key) parts) (HasStood m (frame_of key) (set parts place has.new))
              (stood_given m laws key s log parts i me ruled place within has) me.0.stake.stood seat.stood);
        }

    -- the seat's pins of the place are those of the part that are its own, and no other place's are others
    own_there : pins_at place seat_given ≡ own_pins place me.0 (m.state_of has.old).pins (m.state_of has.new).pins
    own_there = pins_here place (own_pins place me.0 (m.state_of has.old).pins (m.state_of has.new).pins) me.0.stake.pins

    own_else : (other : ℕ) → other ≢ place → pins_at other seat_given ≡ pins_at other me.0
    own_else other ne = pins_else place other (own_pins place me.0 (m.state_of has.old).pins (m.state_of has.new).pins) me.0.stake.pins ne

    -- each shard has the pins of each seat
    pinned_then : (place' : ℕ) (part : P) → slice_get (set parts place has.new) place' ≡ Some part → IsShardPlace (frame_of key) place'
        → ArePinned (pins_at place') (λ z. []) (λ z. false) (m.state_of part).pins (set s.views i seat_given)
    pinned_then place' part at' shard =
        ⊎_elim
        (λ here.
        let shard' : IsShardPlace (frame_of key) place = subst (IsShardPlace (frame_of key)) here.0 shard in
        let turn = ruled.by.home.turn place within in
        let counts = turn.counts in
        let one = turn.one in
        let now : ArePinned (pins_at place) (λ z. []) (λ z. false) (m.state_of has.new).pins (set s.views i seat_given) =
        pinned_given (pins_at place) (has_note place) s.views i me.0 seat_given me.0.core.archived (m.state_of has.old) (m.state_of has.new) ruled.there
        has_it (omega arith)
        (has.can.shard shard').successor.keeps own_there (ruled.by.pinned place has.old (old_there m laws key s log parts i me ruled place within has) shard')
        in
        subst (λ q. ArePinned (pins_at q) (λ z. []) (λ z. false) (m.state_of part).pins (set s.views i seat_given)) (sym here.0)
        (subst (λ z. ArePinned (pins_at place) (λ y. []) (λ y. false) (m.state_of z).pins (set s.views i seat_given)) here.1 now))
        (λ other.
        let held = (m.state_of part).pins in
        let are = ruled.by.pinned place' part other.1 shard in
        let mine : IsPinnedBy (pins_at place') (λ z. []) (λ z. false) held me.0 =
        All-lookup (IsPinnedBy (pins_at place') (λ z. []) (λ z. false) held) s.views i me.0 are.each ruled.there in
        let same : pins_at place' seat_given ≡ pins_at place' me.0 = own_else place' other.0 in
        pinned_set (pins_at place') (λ z. []) (λ z. false) held s.views i me.0 seat_given ruled.there
        (record { pinned = λ free. subst (All (Contains held)) (sym same) (mine.pinned free); none_put = λ free. refl })
        (λ id owns. ap (λ ps. owns_name id ps []) (sym same) ∙ owns) are)
        (get_set parts place place' has.new part at')

    -- the turn is free, and its part at home
    given_turned : length s.homes ≡ key.layout.shards + 1
        → Turned m laws key s log parts i me.0 ruled place within 0 seat_given.stake (set s.homes place (some (Some has.new))) (set parts place has.new)
    given_turned many =
        let views' = views_then m laws key s log parts i me.0 ruled place within 0 seat_given.stake in
        let reads = turn_reads m laws key s log parts i me.0 ruled place within 0 in
        record {
          held = held_given m laws key s log parts i me ruled place within has;
          seats = seats_then m laws key s log parts i me.0 ruled place within 0 seat_given.stake own_given others_given;
          file = λ place' part at' file.
              ⊎_elim
              (λ here. subst (IsFile m key log s.words (cores s.views)) here.1 (file_given m laws key s log parts i me ruled place within has
              (subst (IsFilePlace (frame_of key)) here.0 file)))
              (λ other. ruled.by.file place' part other.1 file) (get_set parts place place' has.new part at');
          home = record {
            turn = λ place' within'.
                ⊎_elim
                (λ (here : place' ≡ place).
                subst (λ q. IsTurn (has_note q) (slice_index (set s.words (4 + place) 0) (4 + q)) views') (sym here)
                (subst (λ n. IsTurn (has_note place) n views') (sym reads)
                (turn_given (has_note place) s.views i me.0 seat_given (slice_index s.words (4 + place)) ruled.there has_it has.is.once
                (ruled.by.home.turn place within))))
                (λ (ne : place' ≢ place).
                subst (λ n. IsTurn (has_note place') n views') (sym (word_other s.words (4 + place) (4 + place') 0 (λ e. ne (omega arith))))
                (turn_same (has_note place') s.views i me.0 seat_given (slice_index s.words (4 + place')) ruled.there
                (sym (ap (λ ns. is_some (find (λ (n : Note P). n.place == place') ns)) has.is.noted ∙ noted_other place place' has.old has.older ne))
                (ruled.by.home.turn place' within')))
                (cases_eq place' place);
            at_home = λ place' part at' free.
                ⊎_elim
                (λ here.
                ap (get_elem? (set s.homes place (some (Some has.new)))) here.0
                ∙ lookup-set_here s.homes place (some (Some has.new)) (omega arith)
                ∙ ap (λ z. some (some (Some z))) here.1)
                (λ other.
                lookup-set_other s.homes place place' (some (Some has.new)) other.0
                ∙ ruled.by.home.at_home place' part other.1
                (sym (word_other s.words (4 + place) (4 + place') 0 (λ e. let ne = other.0 in ne (omega arith))) ∙ free))
                (get_set parts place place' has.new part at');
          };
          pinned = pinned_then;
        }

  pub give_allowed : (slots id : ℕ) → slots ≡ key.layout.shards + 1 → (me : Me (Maybe P) (SeatView P)) → me.0.core.live ≡ true → (step : Step (Maybe P))
      (place : ℕ) → place ≤ key.layout.shards → HasPart m (frame_of key) place me
      → Allows (IsRuled m key) slots id me (4 + place) (λ _. 0) (λ _. GivesTurn m place step me 0)
  give_allowed slots id all me live step place within has s holds many there small =
      let log = holds.log in
      let parts = holds.parts in
      let seat : IsRuledSeat m key s log parts id me.0 = record { by = holds.by; there = there; live = live } in
      let is = has.is in
      let now = giving (record { place = place; part = has.old }) has.older (m.state_of has.old) (m.state_of has.new) me.0 in
      let turned = given_turned s log parts id me seat place within has (many ∙ all) in
      let ruled : IsRuled m key (record { words = set s.words (4 + place) 0; homes = put_back s.homes me.1; views = set s.views id now }) =
      record {
        log = log;
        parts = set parts place has.new;
        by = subst (λ (hs : List (Option (Maybe P))). IsRuledBy m key (record { words = set s.words (4 + place) 0; homes = hs; views = set s.views id now })
            log (set parts place has.new)) (sym (ap (put_back s.homes) is.slot))
            (turned_keeps m laws key s log parts id me.0 seat place within 0 now.stake turned);
      }
      in
      (now, gives, tt, ruled, record { old = has.old; new = has.new; older = has.older; is = is; becomes = refl })
