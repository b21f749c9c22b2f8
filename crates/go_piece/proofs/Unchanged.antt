-- For callers that give a piece back as it was, or a shard as another: what is left to be known.
use Rattle.std.proofs.Common.{◌≡◌, ℕ, ◌+◌, true, List, take, refl, arith}
use Rattle.go_word.specs.declared.edge.Edge.{Edge}
use Rattle.go_text.specs.Causes.{Rose}
use Rattle.go_core.specs.Frame.{Frame}
use Rattle.go_core.specs.Parts.{IsShardPlace, IsFilePlace}
use Rattle.go_core.proofs.PinCalls.{pins_unchanged}
use Rattle.go_disk.specs.Device.{Device}
use Rattle.go_shard.specs.ShardState.{ShardState}
use Rattle.go_shard.specs.Stands.{Stands}
use Rattle.go_rule.specs.declared.view.SeatView.{SeatView}
use Rattle.go_rule.specs.Rule.{Begins}
use Rattle.go_rule.specs.Turns.{owns_at, taking, IsTaken, CanGiveShard, CanGive}
use Rattle.go_piece.specs.declared.piece.Piece.{Piece}
use Rattle.go_piece.specs.declared.piece.Piece.TheVariants.{Shard, Log, Spent}
use Rattle.go_piece.specs.Pieces.{state_in, Fits, HasFailed, mark_in, OnShard}
use Rattle.go_piece.specs.Meanings.{meaning_of, IsShardInHand}

module _ {D : Type 0} (device : Device D) (f : Frame) (d : SeatView (Piece D)) (place : ℕ) where
  -- what a seat may tell of a shard that it took
  pub shard_in_hand : (shard : ShardState) → IsShardPlace f place → IsTaken (meaning_of device) f d place (Shard shard)
      → IsShardInHand device d.about place shard
  shard_in_hand shard here taken =
      let of = taken.shard here in
      record { fits = taken.fits; log = take shard.front taken.log; stands = taken.over.stands; cut_pins = of.in_hand.cut_pins; names = of.in_hand.names }

  -- and where that lies in a piece
  pub piece_in_hand : (piece : Piece D) → IsShardPlace f place → d.about.shards + 5 ≡ f.base → IsTaken (meaning_of device) f d place piece
      → OnShard (IsShardInHand device d.about place) piece
  piece_in_hand (Shard shard) here base taken = shard_in_hand shard here taken
  piece_in_hand (Log kept) here base taken = let at = taken.fits.0 in absurd (omega arith)
  piece_in_hand (Spent disk front) here base taken = let at = taken.fits.0 in absurd (omega arith)

  -- a shard that goes onward with its pins, where they may stand, and stands for what it stood for, is given back
  pub shard_given : (old new : ShardState) → IsShardPlace f place → Fits device (Shard new) place d.about.shards d.about.vertices
      → ((log : List Edge) → Begins log d.told.seen → Stands old (take old.front log) → Stands new (take new.front log))
      → CanGiveShard (meaning_of device) d place (Shard old) (Shard new) → CanGive (meaning_of device) f d place (Shard old) (Shard new)
  shard_given old new here fits stands can = record {
    fits = fits;
    stands = λ log begins was. stands log begins was;
    shard = λ is. can;
    file = λ file. absurd (omega arith);
  }

  -- a shard as it was
  pub shard_unchanged : (shard : ShardState) → IsShardPlace f place → IsShardInHand device d.about place shard
      → CanGive (meaning_of device) f d place (Shard shard) (Shard shard)
  shard_unchanged shard here held =
      let state = state_in {D = D} (Shard shard) in
      shard_given shard shard here held.fits (λ log begins was. was)
      (record {
        successor = record {
          onward = record { front_from = omega arith; front_to = omega arith; cut_from = omega arith; cut_to = omega arith };
          keeps = pins_unchanged d.core.archived (owns_at place d) state state refl held.cut_pins held.names;
        };
        own = held.stands.keeps_front;
        kept = λ front cut kept. kept;
      })

  -- a log's file as it was; of one that failed the count of faults has risen since the ring was made, and the flag has to be known to be raised
  pub file_unchanged : (piece : Piece D) → IsFilePlace f place → Fits device piece place d.about.shards d.about.vertices
      → (HasFailed piece → Rose d.about.faults (mark_in device piece).faults × (d.told.flagged ≡ true)) → CanGive (meaning_of device) f d place piece piece
  file_unchanged piece here fits failed = record {
    fits = fits;
    stands = λ log begins was. was;
    shard = λ is. absurd (omega arith);
    file = λ is. record {
      successor = record { front_from = omega arith; front_to = omega arith; cut = refl; pins = refl };
      clock = omega arith;
      faults = omega arith;
      spent = failed;
      recovers = λ log begins left. left;
    };
  }

-- whatever piece a seat took at a shard's place, as it was: it is a shard
pub place_unchanged : {D : Type 0} (device : Device D) (f : Frame) (d : SeatView (Piece D)) (place : ℕ) (piece : Piece D) → IsShardPlace f place
    → d.about.shards + 5 ≡ f.base → IsTaken (meaning_of device) f d place piece
    → CanGive (meaning_of device) f (taking place piece d) place piece piece
place_unchanged device f d place (Shard shard) here base taken =
    shard_unchanged device f (taking place (Shard shard) d) place shard here (shard_in_hand device f d place shard here taken)
place_unchanged device f d place (Log kept) here base taken = let at = taken.fits.0 in absurd (omega arith)
place_unchanged device f d place (Spent disk front) here base taken = let at = taken.fits.0 in absurd (omega arith)
