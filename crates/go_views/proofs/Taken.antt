-- A view was taken, or what it was to have was taken away again.
use Rattle.std.proofs.Common.{◌≡◌, ℕ, ◌<◌, List, length, get_or, arith, subst}
use Rattle.atomic_table.specs.Table.{Me}
use Rattle.go_api.specs.declared.stop.Stop.{Stop}
use Rattle.go_api.specs.declared.stop.Stop.TheVariants.{Disk, Memory}
use Rattle.std.specs.Prelude.{Err}
use Rattle.go_core.specs.Frame.{Frame}
use Rattle.go_core.specs.Parts.{IsShardPlace}
use Rattle.go_rule.specs.declared.view.SeatView.{SeatView}
use Rattle.go_turns.specs.Going.{HasGoneOn}
use Rattle.go_turns.proofs.Going.{knows_further}
use Rattle.go_views.specs.Gathering.{HasGathered, Stops, IsStopped}
use Rattle.go_views.specs.Pins.{pin_of, HasPinnedEach, HasSettledEach, HasUnpinnedEach, HasTurnedEach}
use Rattle.go_views.specs.PlaceTurns.{HasNames}
use Rattle.go_views.specs.Taking.{HasTaken, Takes}
use Rattle.go_views.specs.Views.{View}
use Rattle.go_views.proofs.EachTurn.{new_names, turned_going, still_pinned, settled_all, names_pinned, gone_unpinned}
use Rattle.go_views.proofs.PinsBecome.{gained_there, new_name_of}

module _ {P : Type 0} (f : Frame) (shards : ℕ) (places : (place : ℕ) → place < shards → IsShardPlace f place) where
  -- a seat that put pins in and gathered what a view has beside them, took that view
  pub taken : (floor : ℕ) (view : View) (d e now : SeatView P) → length view.names ≡ shards → HasPinnedEach f shards view.names d e
      → HasGathered f floor view e now → HasTaken f shards floor view d now
  taken floor view d e now long pinned got =
      let before = turned_going f shards (new_names view.names) places (λ place. new_name_of (get_or view.names place 0)) d e got.then pinned.turned got.on in
      let pins = settled_all f view.names shards view.archived d got.then now before
      (subst (λ n. HasSettledEach f n view.names view.archived got.then now) long got.settled) in
      let seen = pinned.turned.moved.knows.seen in
      let front = got.seen_before in
      record {
        is = record {
          shows = got.shows;
          shards_are = long;
          pinned = λ place less. gained_there (pin_of view.names view.archived place) _ _ (pins.each place less);
        };
        floor_to = got.floor_to;
        seen_before = omega arith;
        pins = pins;
      }

  -- one that was stopped still has the pins that it put in
  module _ {S : Type 0} (slots : ℕ) (names : List ℕ) (why : Stop) (me one two : Me S (SeatView P)) (long : length names ≡ shards)
      (pinned : HasPinnedEach f shards names me.0 one.0) (stopped : IsStopped f slots names why one two) where
    stopped_on : (cause : Stop) (now : Me S (SeatView P)) → Stops f slots one cause now → HasGoneOn f one.0 now.0
    stopped_on Disk now flagged = flagged.on
    stopped_on Memory now on = on

    pub pinned_still : HasTurnedEach f shards (new_names names) me.0 two.0
    pinned_still =
        let within = stopped.within in
        let before = turned_going f shards (new_names names) places (λ place. new_name_of (get_or names place 0)) me.0 one.0 stopped.then.0 pinned.turned
        (stopped_on why stopped.then stopped.stops) in
        still_pinned f names shards stopped.upto stopped.front me.0 stopped.then.0 two.0 places (omega arith) before stopped.settled

    pub names_still : HasNames names two.0
    names_still = names_pinned f names me.0 two.0 shards long pinned_still

    -- and when these are taken away, the taking of a view was stopped so
    pub taken_away : (floor : ℕ) (now : Me S (SeatView P)) → HasUnpinnedEach f shards names two.0 now.0 → Takes f slots shards floor me (Err why) now
    taken_away floor now unpinned = of why stopped
      where
        on : HasGoneOn f me.0 now.0
        on = gone_unpinned f names shards me.0 two.0 now.0 pinned_still unpinned

        of : (cause : Stop) → IsStopped f slots names cause one two → Takes f slots shards floor me (Err cause) now
        of Disk at =
            let flag = at.stops in
            record {
              before = flag.before;
              after = flag.after;
              came = knows_further me.0 one.0 flag.before.0 pinned.turned.moved.knows flag.came;
              load = flag.load;
              left = knows_further flag.after.0 at.then.0 now.0 flag.left
                  (knows_further at.then.0 two.0 now.0 at.settled.turned.moved.knows unpinned.turned.moved.knows);
              on = on;
            }
        of Memory at = on
