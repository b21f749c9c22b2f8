-- For callers: a view stays one of its seat's while that goes on, takes other views, and releases them.
use Rattle.std.proofs.Common.{◌≡◌, ◌≢◌, ℕ, ◌<◌, ◌≤◌, true, false, List, length, take, drop, map, get_or, take-take, sym, ap, ◌∙◌, inl, ⊎_elim, arith, subst}
use Rattle.std.specs.Prelude.{Contains, filter, ◌==◌, Result, Ok, Err}
use Rattle.std.proofs.lemmas.Bool.{cases_lt, cases_Bool, true≢false}
use Rattle.go_api.specs.declared.stop.Stop.{Stop}
use Rattle.go_api.specs.declared.stop.Stop.TheVariants as stops
use Rattle.go_word.specs.declared.edge.Edge.{Edge}
use Rattle.go_word.specs.declared.pin.Pin.{Pin}
use Rattle.go_word.specs.Log.{entries_from, raw}
use Rattle.go_word.specs.Pins.{is_named, has_name}
use Rattle.go_word.specs.Word.{plain_word}
use Rattle.go_core.specs.Frame.{Frame}
use Rattle.go_core.specs.Parts.{IsShardPlace}
use Rattle.go_core.proofs.PinLaws.{has-in}
use Rattle.go_rule.specs.declared.view.About.{About}
use Rattle.go_rule.specs.declared.view.PlacedPin.{PlacedPin}
use Rattle.go_rule.specs.declared.view.SeatView.{SeatView}
use Rattle.go_rule.specs.Rule.{Begins, pins_at}
use Rattle.go_rule.proofs.Beginnings.{begins_within}
use Rattle.go_rule.proofs.Lists.{is_number}
use Rattle.go_turns.specs.Going.{HasGoneOn}
use Rattle.go_views.specs.Pins.{HasGained, HasLost, pin_of, HasMovedOn, HasTurnedEach}
use Rattle.go_views.specs.PlaceTurns.{HasNames}
use Rattle.go_views.specs.Views.{View, Shows, IsView}
use Rattle.go_views.specs.Taking.{Takes}
use Rattle.go_views.proofs.EachTurn.{moved_going}

-- what a view tells of a log, it tells of a longer one
pub shows_longer : (vertices : ℕ) (log more : List Edge) (view : View) → Begins more log → Shows vertices log view → Shows vertices more view
shows_longer vertices log more view begins shows =
    let within = shows.within in
    let archived = shows.archived in
    let longer : length log ≤ length more = begins_within more log begins in
    let to : (n : ℕ) → n ≤ length log → take n log ≡ take n more = λ n less. ap (take n) begins ∙ take-take n (length log) more less in
    record {
      within = omega arith;
      archived = archived;
      vertices_are = shows.vertices_are;
      counts = λ v less. shows.counts v less ∙ ap (λ l. raw l v) (to view.archived (omega arith));
      later = λ v less. shows.later v less ∙ ap (λ l. map plain_word (entries_from v (drop view.archived l))) (to view.front within);
    }

-- a view's pin has its name
named_so : (names : List ℕ) (front place : ℕ) (pins : List Pin) → Contains pins (pin_of names front place) → has_name (get_or names place 0) pins ≡ true
named_so names front place pins there = has-in pins (pin_of names front place) there

module _ {P : Type 0} (shards : ℕ) (view : View) where
  -- the seat has pins of the view's names
  pub view_named : (d : SeatView P) → IsView shards view d → HasNames view.names d
  view_named d is place less =
      let long = is.shards_are in
      named_so view.names view.archived place (pins_at place d) (is.pinned place (omega arith))

  module _ (d e : SeatView P) where
    -- it stays a view while the seat is one of its ring, forgets nothing of the log, and has its pins
    pub view_stays : e.about ≡ d.about → Begins e.told.seen d.told.seen
        → ((place : ℕ) → place < shards → Contains (pins_at place e) (pin_of view.names view.archived place)) → IsView shards view d → IsView shards view e
    view_stays about begins pinned is =
        record {
          shows = subst (λ (a : About). Shows a.vertices e.told.seen view) (sym about)
              (shows_longer d.about.vertices d.told.seen e.told.seen view begins is.shows);
          shards_are = is.shards_are;
          pinned = pinned;
        }

    -- so by each step that leaves its pins alone
    pub view_stays_stepping : e.about ≡ d.about → Begins e.told.seen d.told.seen → e.stake.pins ≡ d.stake.pins → IsView shards view d → IsView shards view e
    view_stays_stepping about begins pins is =
        view_stays about begins
        (λ place less.
        let at : List PlacedPin → List Pin = λ xs. map (λ (x : PlacedPin). x.pin) (filter (λ (x : PlacedPin). x.place == place) xs) in
        subst (λ (xs : List PlacedPin). Contains (at xs) (pin_of view.names view.archived place)) (sym pins)
        (is.pinned place less)) is

    moved_stays : HasMovedOn d e → ((place : ℕ) → place < shards → Contains (pins_at place e) (pin_of view.names view.archived place)) → IsView shards view d
        → IsView shards view e
    moved_stays moved pinned is = view_stays (ap (λ z. z.about) moved.rest) moved.knows.begins pinned is

    module _ (f : Frame) (shard : (place : ℕ) → place < shards → IsShardPlace f place) where
      -- while it goes on with its pins
      pub view_stays_going : HasGoneOn f d e → IsView shards view d → IsView shards view e
      view_stays_going on is =
          moved_stays (moved_going f d e on)
          (λ place less. (on.pins place (shard place less) (pin_of view.names view.archived place)).1 (is.pinned place less)) is

      -- while it takes other pins
      pub view_stays_gaining : (upto : ℕ) (pins : ℕ → Pin) → HasTurnedEach f upto (λ place. HasGained (pins place)) d e → IsView shards view d
          → IsView shards view e
      view_stays_gaining upto pins turned is =
          moved_stays turned.moved
          (λ place less.
          ⊎_elim (λ (first : place < upto). ((turned.each place first).are (pin_of view.names view.archived place)).1 (inl (is.pinned place less)))
          (λ (above : upto ≤ place). (turned.others place (shard place less) above (pin_of view.names view.archived place)).1 (is.pinned place less))
          (cases_lt place upto)) is

      -- while pins of other names are taken away
      pub view_stays_losing : (upto : ℕ) (names : List ℕ)
          → ((place : ℕ) → place < upto → place < shards → get_or view.names place 0 ≢ get_or names place 0)
          → HasTurnedEach f upto (λ place. HasLost (get_or names place 0)) d e → IsView shards view d → IsView shards view e
      view_stays_losing upto names apart turned is =
          moved_stays turned.moved
          (λ place less.
          let pin = pin_of view.names view.archived place in
          ⊎_elim
          (λ (first : place < upto).
          (turned.each place first pin).1 (
            is.pinned place less,
            ⊎_elim
                (λ (named : is_named (get_or names place 0) pin ≡ true).
                absurd (apart place first less (is_number (get_or view.names place 0) (get_or names place 0) named)))
                (λ (other : is_named (get_or names place 0) pin ≡ false). other) (cases_Bool (is_named (get_or names place 0) pin)),
          ))
          (λ (above : upto ≤ place). (turned.others place (shard place less) above pin).1 (is.pinned place less)) (cases_lt place upto)) is

      -- whatever the taking of another view came to
      pub view_stays_taking : {S : Type 0} (slots floor : ℕ) (s t : List (ℕ × S)) (result : Result View Stop) → Takes f slots shards floor (d, s) result (e, t)
          → IsView shards view d → IsView shards view e
      view_stays_taking slots floor s t (Ok other) taken is = view_stays_gaining shards (pin_of other.names other.archived) taken.pins is
      view_stays_taking slots floor s t (Err stops.Disk) flagged is = view_stays_going flagged.on is
      view_stays_taking slots floor s t (Err stops.Memory) on is = view_stays_going on is

    -- a view that is taken beside it has other names
    pub names_apart : (f : Frame) (names : List ℕ) (front : ℕ) → HasTurnedEach f shards (λ place. HasGained (pin_of names front place)) d e
        → IsView shards view d → (place : ℕ) → place < shards → get_or view.names place 0 ≢ get_or names place 0
    names_apart f names front turned is place less same =
        true≢false
        (sym (named_so view.names view.archived place (pins_at place d) (is.pinned place less))
        ∙ ap (λ n. has_name n (pins_at place d)) same
        ∙ (turned.each place less).fresh)
