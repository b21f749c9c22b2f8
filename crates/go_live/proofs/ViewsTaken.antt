-- A view that was taken beside those that a session has.
use Rattle.std.proofs.Common.{◌≡◌, ◌≢◌, ℕ, ◌<◌, true, List, get_or, slice_get, Some, sym, refl, ap, ◌∙◌, arith, subst}
use Rattle.std.specs.Prelude.{Result, Ok, Err}
use Rattle.atomic_table.specs.Table.{Me}
use Rattle.go_api.specs.declared.stop.Stop.{Stop}
use Rattle.go_api.specs.declared.stop.Stop.TheVariants.{Disk, Memory}
use Rattle.go_core.specs.Frame.{Frame}
use Rattle.go_rule.specs.declared.layout.Key.{Key}
use Rattle.go_rule.specs.declared.view.SeatView.{SeatView}
use Rattle.go_rule.specs.Views.{frame_of}
use Rattle.go_turns.specs.Going.{HasGoneOn}
use Rattle.go_views.specs.Pins.{HasGained, HasLost, HasTurnedEach, pin_of}
use Rattle.go_views.specs.Taking.{HasTaken, Takes}
use Rattle.go_views.specs.Views.{View as AView, IsView}
use Rattle.go_views.proofs.Staying.{names_apart, view_stays_gaining, view_stays_losing}
use Rattle.go_live.specs.declared.held.Held.{Held}
use Rattle.go_live.specs.declared.held.Held.TheVariants.{View}
use Rattle.go_live.specs.Handles.{AreApart, HasPlaces}
use Rattle.go_live.proofs.Handling.{flagged_on}
use Rattle.go_live.proofs.Places.{MayHold, may_hold_view}
use Rattle.go_live.proofs.Steady.{shard_place}

module _ {P : Type 0} (key : Key P) (shards : ℕ) (is : shards ≡ key.layout.shards) (d e : SeatView P) where
  -- each view that was one still is
  pub taken_stays : (view : AView) → HasTurnedEach (frame_of key) shards (λ place. HasGained (pin_of view.names view.archived place)) d e → (old : AView)
      → IsView key.layout.shards old d → IsView key.layout.shards old e
  taken_stays view pins old was =
      view_stays_gaining key.layout.shards old d e (frame_of key) (shard_place key) shards (pin_of view.names view.archived) pins was

  -- and the new one may stand beside them
  pub may_hold_taken : (floor k seen : ℕ) (held : List Held) (view : AView) → HasTaken (frame_of key) shards floor view d e → HasPlaces key.layout.shards seen held d
      → MayHold key.layout.shards e held k (View view)
  may_hold_taken floor k seen held view taken places =
      may_hold_view key.layout.shards e held k view (subst (λ n. IsView n view e) is taken.is)
      (λ j other ne there.
      names_apart key.layout.shards other d e (frame_of key) view.names view.archived
      (subst (λ n. HasTurnedEach (frame_of key) n (λ place. HasGained (pin_of view.names view.archived place)) d e) is taken.pins) (places.views j other there))

  -- once the pins of other names were taken away, a view still is one
  pub released_stays : (names : List ℕ) (view : AView) → HasTurnedEach (frame_of key) shards (λ place. HasLost (get_or names place 0)) d e
      → ((place : ℕ) → place < key.layout.shards → get_or view.names place 0 ≢ get_or names place 0) → IsView key.layout.shards view d
      → IsView key.layout.shards view e
  released_stays names view turned apart was =
      view_stays_losing key.layout.shards view d e (frame_of key) (shard_place key) shards names (λ place first less. apart place less) turned was

-- a taking that was stopped left the seat gone on, and saw the flag raised where that told it of the disk
pub taken_gone : {P S : Type 0} (f : Frame) (slots shards floor : ℕ) (why : Stop) (me now : Me S (SeatView P)) → Takes f slots shards floor me (Err why) now
    → HasGoneOn f me.0 now.0
taken_gone f slots shards floor Disk me now flagged = flagged.on
taken_gone f slots shards floor Memory me now on = on

pub taken_flagged : {P S : Type 0} (f : Frame) (slots shards floor : ℕ) (why : Stop) (me now : Me S (SeatView P)) → Takes f slots shards floor me (Err why) now
    → why ≡ Disk → now.0.told.flagged ≡ true
taken_flagged f slots shards floor Disk me now flagged disk = flagged_on f slots Disk me now flagged
taken_flagged f slots shards floor Memory me now on disk = absurd (let h : Memory ≡ Disk = disk in cc)
