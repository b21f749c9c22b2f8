-- A handle whose call was stopped, by the flag or by a fault of the disk that its own seat raised.
use Rattle.std.proofs.Common.{◌≡◌, ◌⊎◌, ℕ, ◌≤◌, ◌||◌, Bool, true, false, List, length, take, take_all, sym, refl, ap, ◌∙◌, ⊎_elim, inl, inr, arith, subst}
use Rattle.atomic_table.specs.Seated.{TableId}
use Rattle.atomic_table.specs.Table.{Me}
use Rattle.go_api.specs.Calls.{IsStopped}
use Rattle.go_api.specs.declared.stop.Stop.{Stop}
use Rattle.go_api.specs.declared.stop.Stop.TheVariants.{Disk, Memory}
use Rattle.go_core.specs.Frame.{Frame}
use Rattle.go_disk.specs.Device.{Device}
use Rattle.go_rule.specs.declared.layout.Key.{Key}
use Rattle.go_rule.specs.declared.view.SeatView.{SeatView}
use Rattle.go_rule.specs.Views.{frame_of, with_raised}
use Rattle.go_turns.specs.Going.{HasGoneOn}
use Rattle.go_turns.proofs.Going.{gone_further}
use Rattle.go_piece.specs.declared.piece.Piece.{Piece}
use Rattle.go_stream.specs.Updates.{Stops}
use Rattle.go_views.proofs.Staying.{view_stays_stepping}
use Rattle.go_live.specs.declared.handle.Handle.{Handle}
use Rattle.go_live.specs.Going.{Serves, ServesOn}
use Rattle.go_live.specs.GoingOn.{served_on}
use Rattle.go_live.specs.Handles.{is_disk, IsHandle, KnowsLog, SeesTo, kept_of, stands_in}
use Rattle.go_live.proofs.Handling.{IsSameBut, flagged_on, handle_still, met_now, met_seen, met_stays, only_sees, serves_on}
use Rattle.go_live.proofs.Steady.{sees_still}

-- what is raised besides nothing
or_nothing : (b : Bool) → (b || false) ≡ b
or_nothing true = refl
or_nothing false = refl

module _ {D : Type 0} (table : TableId) (key : Key (Piece D)) (h : Handle D) where
  -- the handle, once its seat raised a fault of the disk
  abbrev raised : Handle D
  raised = record h { seat = record h.seat { me = (with_raised 1 h.seat.me.0, h.seat.me.1) } }

  -- it is one still
  raised_handle : IsHandle table key h → IsHandle table key raised
  raised_handle is =
      let d = h.seat.me.0 in
      let e : SeatView (Piece D) = with_raised 1 d in
      let kept = is.steady.kept in
      let itself = sym (take_all (length d.told.seen) d.told.seen (omega arith)) in
      record {
        steady = record {
          of = record {
            at = is.steady.of.at;
            sized = is.steady.of.sized;
            vertices_are = is.steady.of.vertices_are;
            vertices = is.steady.of.vertices;
            first = is.steady.of.first;
            words = is.steady.of.words;
          };
          nothing = record { pending = is.steady.nothing.pending; notes = is.steady.nothing.notes; slots = is.steady.nothing.slots };
          kept = record {
            owns = record { rises = kept.owns.rises; before = kept.owns.before; known = kept.owns.known };
            fronts = record {
              from = kept.fronts.from;
              to = record { seen = kept.fronts.to.seen; there = kept.fronts.to.there };
              archived = kept.fronts.archived;
              durable = kept.fronts.durable;
            };
            places = record {
              count = kept.places.count;
              shown = kept.places.shown;
              views = λ k view there. view_stays_stepping key.layout.shards view d e refl itself refl (kept.places.views k view there);
              apart = kept.places.apart;
            };
            met = λ met. refl;
          };
        };
        knows = record { below = is.knows.below; head = is.knows.head; small = is.knows.small };
      }

  raised_serves : ServesOn h raised
  raised_serves =
      record {
        table = refl;
        id = refl;
        serves = record { about = refl; lot = refl; joined = refl; heard = refl; flagged = λ is. refl; memory = or_nothing h.seat.me.0.core.memory_raised };
      }

  module _ (now : Handle D) (e : SeatView (Piece D)) (why : Stop) where
    -- the seat has gone on, and saw the flag raised where the disk stopped it; or it raised that itself
    abbrev pub WasStopped : Type 0
    WasStopped = (HasGoneOn (frame_of key) h.seat.me.0 e × (why ≡ Disk → e.told.flagged ≡ true)) ⊎ HasGoneOn (frame_of key) (with_raised 1 h.seat.me.0) e

    module _ (same : IsSameBut table key h now) (on : HasGoneOn (frame_of key) e now.seat.me.0) (seen : now.seen ≡ h.seen)
        (met : now.met ≡ (h.met || is_disk why)) (knows : (seen : ℕ) → seen ≤ e.core.seen → KnowsLog seen now.seat.me.0) (is : IsHandle table key h) where
      -- what stopped it left a handle
      pub stop_handle : WasStopped → IsHandle table key now
      stop_handle stop =
          let f = frame_of key in
          let d = h.seat.me.0 in
          let g = now.seat.me.0 in
          let to = is.steady.kept.fronts.to in
          ⊎_elim
          (λ (gone : HasGoneOn f d e × (why ≡ Disk → e.told.flagged ≡ true)).
          let all = gone_further f d e g gone.0 on in
          let later = sees_still h.seen d e gone.0.knows to in
          handle_still table key h now same all (omega arith) is
          (subst (λ n. SeesTo n g) (sym seen) (sees_still h.seen d g all.knows to))
          (subst (λ n. KnowsLog n g) (sym seen) (knows h.seen later.seen))
          (λ is_met. met_seen h.met g why (λ was. all.knows.flagged (is.steady.kept.met was)) (λ disk. on.knows.flagged (gone.1 disk)) (sym met ∙ is_met)))
          (λ (gone : HasGoneOn f (with_raised 1 d) e).
          let all = gone_further f (with_raised 1 d) e g gone on in
          let was : IsHandle table key raised = raised_handle is in
          let old = was.steady.kept.fronts.to in
          let later = sees_still h.seen (with_raised 1 d) e gone.knows old in
          handle_still table key raised now
          (record {
            table_is = same.table_is;
            id_is = same.id_is;
            hand = same.hand;
            words = same.words;
            numbers = same.numbers;
            next = same.next;
            held = same.held;
          }) all (omega arith) was
          (subst (λ n. SeesTo n g) (sym seen) (sees_still h.seen (with_raised 1 d) g all.knows old))
          (subst (λ n. KnowsLog n g) (sym seen) (knows h.seen later.seen))
          (λ is_met. all.knows.flagged refl)) stop

      pub stop_stands : WasStopped → IsStopped why (stands_in key h) (stands_in key now)
      stop_stands stop =
          let f = frame_of key in
          let d = h.seat.me.0 in
          let g = now.seat.me.0 in
          let to = is.steady.kept.fronts.to in
          record {
            sees = ⊎_elim
                (λ (gone : HasGoneOn f d e × (why ≡ Disk → e.told.flagged ≡ true)).
                let all = gone_further f d e g gone.0 on in
                only_sees table key h now same all (omega arith) is (subst (λ n. SeesTo n g) (sym seen) (sees_still h.seen d g all.knows to))
                (λ was. met ∙ met_stays h.met why was))
                (λ (gone : HasGoneOn f (with_raised 1 d) e).
                let all = gone_further f (with_raised 1 d) e g gone on in
                let was : IsHandle table key raised = raised_handle is in
                only_sees table key raised now
                (record {
                  table_is = same.table_is;
                  id_is = same.id_is;
                  hand = same.hand;
                  words = same.words;
                  numbers = same.numbers;
                  next = same.next;
                  held = same.held;
                }) all (omega arith) was
                (subst (λ n. SeesTo n g) (sym seen) (sees_still h.seen (with_raised 1 d) g all.knows was.steady.kept.fronts.to))
                (λ had. met ∙ met_stays h.met why had)) stop;
            met = λ disk. met ∙ met_now h.met why disk;
          }

      pub stop_serves : WasStopped → ServesOn h now
      stop_serves stop =
          let f = frame_of key in
          let d = h.seat.me.0 in
          let g = now.seat.me.0 in
          ⊎_elim
          (λ (gone : HasGoneOn f d e × (why ≡ Disk → e.told.flagged ≡ true)). serves_on table key h now same (gone_further f d e g gone.0 on))
          (λ (gone : HasGoneOn f (with_raised 1 d) e).
          served_on h raised now raised_serves
          (serves_on table key raised now
          (record {
            table_is = same.table_is;
            id_is = same.id_is;
            hand = same.hand;
            words = same.words;
            numbers = same.numbers;
            next = same.next;
            held = same.held;
          }) (gone_further f (with_raised 1 d) e g gone on))) stop

-- an update that was stopped left that
pub update_stopped : {D S : Type 0} (device : Device D) (f : Frame) (slots : ℕ) (why : Stop) (me now : Me S (SeatView (Piece D))) → Stops device f slots why me now
    → (HasGoneOn f me.0 now.0 × (why ≡ Disk → now.0.told.flagged ≡ true)) ⊎ HasGoneOn f (with_raised 1 me.0) now.0
update_stopped device f slots Disk me now stops =
    ⊎_elim (λ flagged. inl (flagged.on, λ disk. flagged_on f slots Disk me now flagged)) (λ failed. inr failed.on) stops
update_stopped device f slots Memory me now on = inl (on, λ disk. absurd (let h : Memory ≡ Disk = disk in cc))
