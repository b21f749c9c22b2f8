-- A turn of the log's file: it is taken, appended to, and given back, with a fault of its disk raised before.
use Rattle.std.proofs.Common.{◌≡◌, ◌⊎◌, ℕ, ◌≤◌, true, List, sym, refl, ap, inl, inr, ⊎_elim, arith, subst}
use Rattle.std.specs.Prelude.{Option as Maybe, None, Some, Err}
use Rattle.atomic_table.specs.Table.{Me}
use Rattle.std.proofs.lemmas.Bool.{false≢true}
use Rattle.go_api.specs.declared.stop.Stop.{Stop}
use Rattle.go_api.specs.declared.stop.Stop.TheVariants as stops
use Rattle.go_word.specs.declared.edge.Edge.{Edge}
use Rattle.go_core.specs.Frame.{Frame}
use Rattle.go_core.specs.Parts.{IsFilePlace}
use Rattle.go_disk.specs.Device.{Device}
use Rattle.go_rule.specs.declared.view.SeatView.{SeatView}
use Rattle.go_rule.specs.Turns.{taking}
use Rattle.go_rule.specs.Views.{with_raised}
use Rattle.go_turns.specs.Holding.{Takes, Gives}
use Rattle.go_turns.proofs.Going.{gone_nowhere}
use Rattle.go_turns.proofs.Handing.{told_of}
use Rattle.go_piece.specs.declared.piece.Piece.{Piece}
use Rattle.go_piece.specs.declared.piece.Piece.TheVariants.{Shard, Log, Spent}
use Rattle.go_piece.specs.Pieces.{file_of, state_in, HasFailed, mark_in}
use Rattle.go_text.specs.Causes.{Rose}
use Rattle.go_piece.specs.Meanings.{meaning_of}
use Rattle.go_workers.specs.Bringing.{HasAppendedPiece, IsFileInHand, is_disk}
use Rattle.go_workers.specs.Turns.{raised_by, HasRead, HasServed, HasFiled, KnowsStood}
use Rattle.go_workers.proofs.Served.{served_with, takes_raised}

module _ {D : Type 0} (device : Device D) where
  -- a file that took what it lacked has come to the run's end
  appended_front : (upto : ℕ) (old new : Piece D) → HasAppendedPiece device upto old new None → upto ≤ (state_in new).front
  appended_front upto (Shard shard) new is = absurd is
  appended_front upto (Log kept) (Shard shard) is = absurd is
  appended_front upto (Log kept) (Log grown) is = let front = is.1 in omega arith
  appended_front upto (Log kept) (Spent disk front) is = absurd (false≢true (sym is.0))
  appended_front upto (Spent disk front) (Shard shard) is = absurd is
  appended_front upto (Spent disk front) (Log grown) is = let front = is.1 in omega arith
  appended_front upto (Spent disk front) (Spent other last) is = absurd (false≢true (sym is.0))

  -- why a fault of the disk is told
  appended_fault : (upto : ℕ) (old new : Piece D) → HasAppendedPiece device upto old new (Some stops.Disk)
      → (HasFailed old × (new ≡ old)) ⊎ Rose (mark_in device old).faults (mark_in device new).faults
  appended_fault upto (Shard shard) new is = absurd is
  appended_fault upto (Log kept) (Shard shard) is = absurd is
  appended_fault upto (Log kept) (Log grown) is = absurd (false≢true is.0)
  appended_fault upto (Log kept) (Spent disk front) is = ⊎_elim (λ same. absurd (false≢true same.0)) (λ rose. inr rose.1) is.2
  appended_fault upto (Spent disk front) (Shard shard) is = absurd is
  appended_fault upto (Spent disk front) (Log grown) is = absurd (false≢true is.0)
  appended_fault upto (Spent disk front) (Spent other last) is =
      ⊎_elim (λ same. inl (tt, ap file_of same.1)) (λ rose. absurd (false≢true (sym rose.0))) is.2

  module _ (d : SeatView (Piece D)) where
    -- a raised flag takes nothing from what a seat may tell of the file in its hand
    pub hand_raised : (place : ℕ) (stop : Maybe Stop) (piece : Piece D) → IsFileInHand device d place piece → IsFileInHand device (raised_by stop d) place piece
    hand_raised place None piece held = held
    hand_raised place (Some stops.Memory) piece held = held
    hand_raised place (Some stops.Disk) (Shard shard) held = held
    hand_raised place (Some stops.Disk) (Log kept) held = held
    hand_raised place (Some stops.Disk) (Spent disk front) held = held

    -- nor does the turn itself
    pub hand_taking : (place : ℕ) (piece : Piece D) → IsFileInHand device d place piece → IsFileInHand device (taking place piece d) place piece
    hand_taking place (Shard shard) held = held
    hand_taking place (Log kept) held = held
    hand_taking place (Spent disk front) held = held

    pub read_raised : (stop : Maybe Stop) (from : ℕ) (run : List Edge) → HasRead from run d → HasRead from run (raised_by stop d)
    read_raised None from run read = read
    read_raised (Some stops.Memory) from run read = read
    read_raised (Some stops.Disk) from run read = record { taken = read.taken; seen = read.seen; run_is = read.run_is; small = read.small }

    pub flag_raised : (stop : Maybe Stop) → is_disk stop ≡ true → (raised_by stop d).told.flagged ≡ true
    flag_raised None is = absurd (false≢true is)
    flag_raised (Some stops.Memory) is = absurd (false≢true is)
    flag_raised (Some stops.Disk) is = refl

    pub notes_raised : (stop : Maybe Stop) → (raised_by stop d).stake.notes ≡ d.stake.notes
    notes_raised None = refl
    notes_raised (Some stops.Memory) = refl
    notes_raised (Some stops.Disk) = refl

  module _ (f : Frame) (place upto : ℕ) (old new : Piece D) (me now then after : Me (Maybe (Piece D)) (SeatView (Piece D)))
      (takes : Takes (meaning_of device) f place old me now) (gives : Gives (meaning_of device) place new then after) (file : IsFilePlace f place) where
    -- nothing stopped it
    pub filed : then ≡ now → HasAppendedPiece device upto old new None → HasServed f me after × KnowsStood place upto after.0
    filed same is =
        let served = served_with (meaning_of device) f place old new me now after takes
        (subst (λ t. Gives (meaning_of device) place new t after) same gives) (λ shard. absurd (omega arith)) in (
          served.0,
          record { stand = record { place = place; front = (state_in new).front }; there = served.1; place_is = refl; far = appended_front upto old new is },
        )

    -- it was stopped
    pub stopped : (A : Type 0) (why : Stop) → then ≡ (raised_by (Some why) now.0, now.1) → HasAppendedPiece device upto old new (Some why)
        → HasFiled device f {A = A} place upto me (Err why) after
    stopped A stops.Memory same is =
        (served_with (meaning_of device) f place old new me now after takes
        (subst (λ t. Gives (meaning_of device) place new t after) same gives) (λ shard. absurd (omega arith))).0
    stopped A stops.Disk same is = (
      (served_with (meaning_of device) f place old new (with_raised 1 me.0, me.1) then after
          (takes_raised (meaning_of device) f place 1 old me now then takes same) gives (λ shard. absurd (omega arith))).0,
      record {
        old = old;
        new = new;
        then = me.0;
        went = gone_nowhere f me.0;
        taken = told_of (meaning_of device) f place old me now takes;
        cause = appended_fault upto old new is;
      },
    )
