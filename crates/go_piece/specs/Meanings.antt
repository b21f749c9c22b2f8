-- What pieces mean to the rule of a ring, and what a caller knows of a piece that a seat has in its hand.
use Rattle.std.specs.Prelude.{ℕ, ◌-◌, ◌≤◌, List, take, drop, All}
use Rattle.go_word.specs.declared.edge.Edge.{Edge}
use Rattle.go_disk.specs.Device.{Device}
use Rattle.go_durable.specs.LogState.{LogState}
use Rattle.go_shard.specs.ShardState.{ShardState}
use Rattle.go_shard.specs.Stands.{Stands}
use Rattle.go_core.specs.Parts.{AreNamed}
use Rattle.go_rule.specs.declared.view.About.{About}
use Rattle.go_rule.specs.Meaning.{Meaning}
use Rattle.go_rule.specs.Rule.{Begins}
use Rattle.go_rule.specs.Turns.{mark_in as seat_mark}
use Rattle.go_piece.specs.declared.piece.Piece.{Piece}
use Rattle.go_piece.specs.declared.piece.Piece.TheVariants.{Shard, Log}
use Rattle.go_piece.specs.Pieces.{state_in, StandsFor, Fits, KeepsFront, HasFailed, mark_in, HasLeft}

-- what a piece means, where its disk tells this
abbrev pub meaning_of : {D : Type 0} → Device D → Meaning (Piece D)
meaning_of device = record {
  state_of = state_in;
  stands_for = StandsFor device;
  fits = Fits device;
  keeps = KeepsFront;
  is_spent = HasFailed;
  mark_of = mark_in device;
  recovers = HasLeft device;
}

-- the entries of a log from one place up to another
abbrev pub stretch : ℕ → ℕ → List Edge → List Edge
stretch from upto log = take (upto - from) (drop from log)

-- a shard in a seat's hand is the one of its place, stands for a log, has no pin below its cut and no two of one name
pub record IsShardInHand {D : Type 0} (device : Device D) (about : About) (place : ℕ) (shard : ShardState) : Type 0 where
  pub fits : Fits device (Shard shard) place about.shards about.vertices
  pub log : List Edge
  pub stands : Stands shard log
  pub cut_pins : All (λ pin. shard.cut ≤ pin.front) shard.pins
  pub names : AreNamed shard.pins

-- a log in a seat's hand is the file of its ring, and has kept a log that begins with what the seat has seen since the ring was made
pub record IsLogInHand {D : Type 0} (device : Device D) (about : About) (seen : List Edge) (place : ℕ) (kept : LogState D) : Type 0 where
  pub fits : Fits device (Log kept) place about.shards about.vertices
  pub log : List Edge
  pub begins : Begins log seen
  pub left : HasLeft device (Log kept) log about.vertices about.first (seat_mark about)
