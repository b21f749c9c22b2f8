-- What turns of one shard after another come to, and turns beside other steps.
use Rattle.std.proofs.Common.{◌≡◌, ℕ, ◌+◌, ◌<◌, ◌≤◌, true, false, List, [], ◌∷◌, ◌++◌, length, get_or, sym, refl, ◌∙◌, ⊎_elim, arith, subst}
use Rattle.std.specs.Prelude.{All, Contains, ◌==◌}
use Rattle.std.proofs.lemmas.Bool.{cases_lt}
use Rattle.std.proofs.lemmas.Bool.Decides.{nat_tests}
use Rattle.std.proofs.lemmas.List.{get_or_append_left, get_or_push}
use Rattle.std.proofs.lemmas.List.Elements.{All-weaker, All-contains_itself}
use Rattle.atomic_table.specs.Table.{Me}
use Rattle.go_word.specs.declared.pin.Pin.{Pin}
use Rattle.go_word.specs.Pins.{has_name}
use Rattle.go_core.specs.Frame.{Frame}
use Rattle.go_core.specs.Parts.{IsShardPlace}
use Rattle.go_rule.specs.declared.view.SeatView.{SeatView}
use Rattle.go_rule.specs.Rule.{pins_at}
use Rattle.go_turns.specs.Going.{HasGoneOn}
use Rattle.go_turns.proofs.Going.{gone_nowhere, knows_further}
use Rattle.go_views.specs.Pins.{HasGained, HasShifted, HasLost, pin_of, HasMovedOn, HasTurnedEach, HasServedEach}
use Rattle.go_views.specs.Pins.{HasPinnedEach, HasSettledEach, HasUnpinnedEach}
use Rattle.go_views.specs.PlaceTurns.{AreSame, HasNewName, HasNames, ArePinsTo, HasServedAt}
use Rattle.go_views.proofs.PinsBecome.{IsOfPins, same_itself, same_back, same_further, same_by, named_same}
use Rattle.go_views.proofs.PinsBecome.{new_name_of, gained_shifted, gained_lost, gained_named}

-- another number is another by a test
other_place : (a b : ℕ) → a < b → (a == b) ≡ false
other_place a b less = grind (arith, nat_tests)

other_after : (a b : ℕ) → b < a → (a == b) ≡ false
other_after a b less = grind (arith, nat_tests)

module _ {P : Type 0} where
  -- a seat that moved on twice
  pub moved_further : (d e g : SeatView P) → HasMovedOn d e → HasMovedOn e g → HasMovedOn d g
  moved_further d e g one two = record { knows = knows_further d e g one.knows two.knows; rest = two.rest ∙ one.rest }

  -- and one that went on
  pub moved_going : (f : Frame) (d e : SeatView P) → HasGoneOn f d e → HasMovedOn d e
  moved_going f d e on = record { knows = on.knows; rest = on.rest }

  module _ (f : Frame) (upto : ℕ) (Becomes : ℕ → List Pin → List Pin → Type 0) where
    -- before the first turn
    pub served_first : (d : SeatView P) → HasServedEach f 0 Becomes d d
    served_first d =
        record {
          turned = record {
            moved = moved_going f d d (gone_nowhere f d);
            each = λ place less. absurd (omega arith);
            others = λ place shard above. same_itself (pins_at place d);
          };
          core = refl;
          told = refl;
        }

    -- after one more
    pub served_next : {S : Type 0} (d : SeatView P) (me now : Me S (SeatView P)) → IsShardPlace f upto → IsOfPins (Becomes upto)
        → HasServedEach f upto Becomes d me.0 → HasServedAt upto (Becomes upto) me now → HasServedEach f (upto + 1) Becomes d now.0
    served_next d me now here of each at =
        record {
          turned = record {
            moved = moved_further d me.0 now.0 each.turned.moved at.moved;
            each = λ place less.
                ⊎_elim
                (λ (before : place < upto).
                subst (Becomes place (pins_at place d)) (sym (at.elsewhere place (other_place place upto before))) (each.turned.each place before))
                (λ (from : upto ≤ place).
                let same : upto ≡ place = omega arith in
                subst (λ k. Becomes k (pins_at k d) (pins_at k now.0)) same
                (of (pins_at upto me.0) (pins_at upto d) (pins_at upto now.0) (pins_at upto now.0)
                (same_back (pins_at upto d) (pins_at upto me.0) (each.turned.others upto here (omega arith))) (same_itself (pins_at upto now.0)) at.here))
                (cases_lt place upto);
            others = λ place shard above.
                same_further (pins_at place d) (pins_at place me.0) (pins_at place now.0) (each.turned.others place shard (omega arith))
                (same_by (pins_at place me.0) (pins_at place now.0) (at.elsewhere place (other_after place upto (omega arith))));
          };
          core = at.core ∙ each.core;
          told = at.told ∙ each.told;
        }

    -- what is said of the pins by other words
    pub turned_so : (Other : ℕ → List Pin → List Pin → Type 0) (d e : SeatView P)
        → ((place : ℕ) (old new : List Pin) → place < upto → Becomes place old new → Other place old new) → HasTurnedEach f upto Becomes d e
        → HasTurnedEach f upto Other d e
    turned_so Other d e so turned =
        record {
          moved = turned.moved;
          each = λ place less. so place (pins_at place d) (pins_at place e) less (turned.each place less);
          others = turned.others;
        }

    pub served_so : (Other : ℕ → List Pin → List Pin → Type 0) (d e : SeatView P)
        → ((place : ℕ) (old new : List Pin) → place < upto → Becomes place old new → Other place old new) → HasServedEach f upto Becomes d e
        → HasServedEach f upto Other d e
    served_so Other d e so served = record { turned = turned_so Other d e so served.turned; core = served.core; told = served.told }

    module _ (shards : (place : ℕ) → place < upto → IsShardPlace f place) (of : (place : ℕ) → IsOfPins (Becomes place)) where
      -- and after other steps
      pub turned_going : (d e g : SeatView P) → HasTurnedEach f upto Becomes d e → HasGoneOn f e g → HasTurnedEach f upto Becomes d g
      turned_going d e g turned on =
          record {
            moved = moved_further d e g turned.moved (moved_going f e g on);
            each = λ place less.
                of place (pins_at place d) (pins_at place d) (pins_at place e) (pins_at place g) (same_itself (pins_at place d))
                (on.pins place (shards place less))
                (turned.each place less);
            others = λ place shard above.
                same_further (pins_at place d) (pins_at place e) (pins_at place g) (turned.others place shard above) (on.pins place shard);
          }

      -- and after turns of some of these shards that leave what is said so
      pub turned_partly : (part : ℕ) (Then : ℕ → List Pin → List Pin → Type 0) (d e g : SeatView P) → part ≤ upto
          → ((place : ℕ) (old mid new : List Pin) → Becomes place old mid → Then place mid new → Becomes place old new) → HasTurnedEach f upto Becomes d e
          → HasTurnedEach f part Then e g → HasTurnedEach f upto Becomes d g
      turned_partly part Then d e g within still turned more =
          record {
            moved = moved_further d e g turned.moved more.moved;
            each = λ place less.
                ⊎_elim
                (λ (first : place < part).
                still place (pins_at place d) (pins_at place e) (pins_at place g) (turned.each place less) (more.each place first))
                (λ (rest : part ≤ place).
                of place (pins_at place d) (pins_at place d) (pins_at place e) (pins_at place g) (same_itself (pins_at place d))
                (more.others place (shards place less) rest) (turned.each place less)) (cases_lt place part);
            others = λ place shard above.
                same_further (pins_at place d) (pins_at place e) (pins_at place g) (turned.others place shard above)
                (more.others place shard (omega arith));
          }

    -- and after turns of the same shards
    pub turned_then : (Then Both : ℕ → List Pin → List Pin → Type 0) (d e g : SeatView P)
        → ((place : ℕ) (old mid new : List Pin) → Becomes place old mid → Then place mid new → Both place old new) → HasTurnedEach f upto Becomes d e
        → HasTurnedEach f upto Then e g → HasTurnedEach f upto Both d g
    turned_then Then Both d e g both turned more =
        record {
          moved = moved_further d e g turned.moved more.moved;
          each = λ place less.
              both place (pins_at place d) (pins_at place e) (pins_at place g) (turned.each place less) (more.each place less);
          others = λ place shard above.
              same_further (pins_at place d) (pins_at place e) (pins_at place g) (turned.others place shard above) (more.others place shard above);
        }

  -- where each has the pins that it had, the seat has gone on
  pub gone_each : (f : Frame) (upto : ℕ) (d e : SeatView P) → HasTurnedEach f upto (λ place. AreSame) d e → HasGoneOn f d e
  gone_each f upto d e turned =
      record {
        knows = turned.moved.knows;
        rest = turned.moved.rest;
        pins = λ place shard.
            ⊎_elim (λ (less : place < upto). turned.each place less) (λ (above : upto ≤ place). turned.others place shard above) (cases_lt place upto);
      }

  -- with turns of the first shards done, its pins in another one are at most where they were
  pub pins_left : (f : Frame) (d e : SeatView P) (upto : ℕ) (Becomes : ℕ → List Pin → List Pin → Type 0) (place front : ℕ) → IsShardPlace f place
      → upto ≤ place → HasTurnedEach f upto Becomes d e → ArePinsTo f front d → All (λ pin. pin.front ≤ front) (pins_at place e)
  pins_left f d e upto Becomes place front shard above turned most =
      All-weaker (Contains (pins_at place e)) (λ pin. pin.front ≤ front) (λ pin there. most place shard pin ((turned.others place shard above pin).0 there))
      (pins_at place e) (All-contains_itself (pins_at place e))

-- by the names of pins, by place: what HasPinnedEach says of the pins of each place
abbrev pub new_names : List ℕ → ℕ → List Pin → List Pin → Type 0
new_names names place = HasNewName (get_or names place 0)

module _ {P : Type 0} (f : Frame) (names : List ℕ) where
  -- with one name more
  pub pinned_next : {S : Type 0} (name upto : ℕ) (d : SeatView P) (me now : Me S (SeatView P)) → length names ≡ upto → IsShardPlace f upto
      → HasPinnedEach f upto names d me.0 → HasServedAt upto (HasNewName name) me now → HasPinnedEach f (upto + 1) (names ++ name ∷ []) d now.0
  pinned_next name upto d me now long here pinned at =
      let more : List ℕ = names ++ name ∷ [] in
      served_next f upto (new_names more) d me now here (new_name_of (get_or more upto 0))
      (served_so f upto (new_names names) (new_names more) d me.0
      (λ place old new less was. subst (λ n. HasNewName n old new) (sym (get_or_append_left names (name ∷ []) 0 place (omega arith))) was) pinned)
      (subst (λ n. HasServedAt upto (HasNewName n) me now) (sym (get_or_push names name 0 upto long)) at)

  module _ (d e : SeatView P) where
    -- a seat that pinned them has them
    pub names_pinned : (upto : ℕ) → length names ≡ upto → HasTurnedEach f upto (new_names names) d e → HasNames names e
    names_pinned upto long turned place less =
        let new = turned.each place (omega arith) in
        gained_named (pin_of names new.0 place) (pins_at place d) (pins_at place e) new.1

    -- and still has them after other steps
    pub names_going : ((place : ℕ) → place < length names → IsShardPlace f place) → HasGoneOn f d e → HasNames names d → HasNames names e
    names_going shards on has place less =
        named_same (get_or names place 0) (pins_at place d) (pins_at place e) (on.pins place (shards place less)) (has place less)

    -- and with turns of the first shards done, those of the others
    pub name_left : (upto : ℕ) (Becomes : ℕ → List Pin → List Pin → Type 0) (place : ℕ) → IsShardPlace f place → upto ≤ place → place < length names
        → HasTurnedEach f upto Becomes d e → HasNames names d → has_name (get_or names place 0) (pins_at place e) ≡ true
    name_left upto Becomes place shard above less turned has =
        named_same (get_or names place 0) (pins_at place d) (pins_at place e) (turned.others place shard above) (has place less)

  -- pins that were put in and taken away again left those that there were
  pub gone_unpinned : (upto : ℕ) (d e g : SeatView P) → HasTurnedEach f upto (new_names names) d e → HasUnpinnedEach f upto names e g → HasGoneOn f d g
  gone_unpinned upto d e g pinned unpinned =
      gone_each f upto d g
      (turned_then f upto (new_names names) (λ place. HasLost (get_or names place 0)) (λ place. AreSame) d e g
      (λ place old mid new gained lost. gained_lost (pin_of names gained.0 place) old mid new gained.1 lost) pinned unpinned.turned)

  -- pins that were put in, and of which some were settled
  pub still_pinned : (upto part archived : ℕ) (d e g : SeatView P) → ((place : ℕ) → place < upto → IsShardPlace f place) → part ≤ upto
      → HasTurnedEach f upto (new_names names) d e → HasSettledEach f part names archived e g → HasTurnedEach f upto (new_names names) d g
  still_pinned upto part archived d e g shards within pinned settled =
      turned_partly f upto (new_names names) shards (λ place. new_name_of (get_or names place 0)) part (λ place. HasShifted (pin_of names archived place)) d e g
      within
      (λ place old mid new gained shifted. (archived, gained_shifted (get_or names place 0) gained.0 archived old mid new gained.1 shifted)) pinned
      settled.turned

  -- and settled all of them: they stand at that front
  pub settled_all : (upto archived : ℕ) (d e g : SeatView P) → HasTurnedEach f upto (new_names names) d e → HasSettledEach f upto names archived e g
      → HasTurnedEach f upto (λ place. HasGained (pin_of names archived place)) d g
  settled_all upto archived d e g pinned settled =
      turned_then f upto (new_names names) (λ place. HasShifted (pin_of names archived place)) (λ place. HasGained (pin_of names archived place)) d e g
      (λ place old mid new gained shifted. gained_shifted (get_or names place 0) gained.0 archived old mid new gained.1 shifted) pinned settled.turned
