-- What it means that a shard is brought on or compacted, and the file appended to; and of which parts that is asked.
use Rattle.std.specs.Prelude.{◌≡◌, ◌⊎◌, ℕ, ◌+◌, ◌-◌, ◌^◌, ◌<◌, ◌≤◌, max, Bool, true, false, List, filter, length, drop, All, Option as Maybe, None, Some}
use Rattle.go_api.specs.declared.stop.Stop.{Stop}
use Rattle.go_api.specs.declared.stop.Stop.TheVariants as stops
use Rattle.go_text.specs.Causes.{Rose}
use Rattle.go_word.specs.declared.edge.Edge.{Edge}
use Rattle.go_word.specs.Log.{IsWithin}
use Rattle.go_disk.specs.Device.{Device}
use Rattle.go_durable.specs.declared.journal.Journal.{Journal}
use Rattle.go_durable.specs.declared.journal.Journal.TheVariants as journals
use Rattle.go_durable.specs.Journal.{journal_disk, journal_front, is_spent, CanAppend}
use Rattle.go_shard.specs.ShardState.{ShardState, is_own}
use Rattle.go_shard.specs.Parts.{IsShardOf, HasCompacted}
use Rattle.go_shard.specs.Split.{IsSplit}
use Rattle.go_shard.specs.Stands.{IsSettled}
use Rattle.go_shard.specs.Taking.{HasTaken}
use Rattle.go_rule.specs.declared.view.SeatView.{SeatView}
use Rattle.go_piece.specs.declared.piece.Piece.{Piece}
use Rattle.go_piece.specs.declared.piece.Piece.TheVariants.{Shard, Log, Spent}
use Rattle.go_piece.specs.Pieces.{Fits, OnShard}
use Rattle.go_piece.specs.Meanings.{IsLogInHand}

-- a shard was brought on to a front over these entries, of which it took its own ones; or it stood there already
abbrev pub IsBroughtOn : List Edge → ℕ → ShardState → ShardState → Type 0
IsBroughtOn more front old new =
    ((front ≡ old.front) × (new ≡ old)) ⊎ HasTaken old.front front (filter (is_own old) more) old new

-- a run of entries from a position on is split among the shards, and the shard of a place stands within it
pub record CanBringOn (place from : ℕ) (run : List Edge) (lists : List (List Edge)) (shard : ShardState) : Type 0 where
  pub whose : IsShardOf shard.vertices (length lists) place shard
  pub split : IsSplit (length lists) run lists
  pub index : (place < length lists) × (length lists < 2 ^ 32)
  pub reaches : from ≤ shard.front
  pub within : shard.front ≤ from + length run
  pub small : from + length run < 2 ^ 32
  pub ids : All (IsWithin shard.vertices) run

-- a shard was compacted as far as an archived front and its pins let it: up to the greatest front that it kept
pub record IsCompactedTo (archived : ℕ) (old new : ShardState) : Type 0 where
  pub front : ℕ
  pub settled : IsSettled old archived front
  pub compacted : HasCompacted front old new

-- what a journal lacks of a run of entries from a position on
abbrev pub lacking : {D : Type 0} → Journal D → ℕ → List Edge → List Edge
lacking journal from run = drop (journal_front journal - from) run

-- a journal reaches a run of entries from a position on, and takes what it lacks of it as one block
pub record CanAppendTo {D : Type 0} (from : ℕ) (run : List Edge) (journal : Journal D) : Type 0 where
  pub reaches : from ≤ journal_front journal
  pub few : length run ≤ 65536
  pub can : journal_front journal < from + length run → CanAppend (lacking journal from run) journal

-- a run of entries up to a front was to be appended: the journal has come there, at least; or for want of memory it is as it was; or a disk met a
-- fault, where the count of its faults rose or the journal was spent already
abbrev pub HasAppendedTo : {D : Type 0} → Device D → ℕ → Journal D → Journal D → Maybe Stop → Type 0
HasAppendedTo device upto old new None = (is_spent new ≡ false) × (journal_front new ≡ max (journal_front old) upto)
HasAppendedTo device upto old new (Some stops.Memory) = (is_spent old ≡ false) × (new ≡ old)
HasAppendedTo device upto old new (Some stops.Disk) =
    (is_spent new ≡ true) × (journal_front new ≡ journal_front old)
    × (((is_spent old ≡ true) × (new ≡ old)) ⊎ ((is_spent old ≡ false) × Rose (device.faults (journal_disk old)) (device.faults (journal_disk new))))

-- a fault of the disk stopped it
abbrev pub is_disk : Maybe Stop → Bool
is_disk None = false
is_disk (Some stops.Memory) = false
is_disk (Some stops.Disk) = true

module _ {D : Type 0} where
  -- a piece is the log's file, with this
  abbrev pub OnFile : (Journal D → Type 0) → Piece D → Type 0
  OnFile P (Shard shard) = ⊥
  OnFile P (Log kept) = P (journals.Sound kept)
  OnFile P (Spent disk front) = P (journals.Spent disk front)

  -- a shard that a piece is was compacted
  abbrev pub IsCompactedPiece : ℕ → Piece D → Piece D → Type 0
  IsCompactedPiece archived old new = OnShard (λ shard. OnShard (IsCompactedTo archived shard) new) old

  -- the file that a piece is was appended to
  abbrev pub HasAppendedPiece : Device D → ℕ → Piece D → Piece D → Maybe Stop → Type 0
  HasAppendedPiece device upto old new stop = OnFile (λ journal. OnFile (λ appended. HasAppendedTo device upto journal appended stop) new) old

  -- a piece in a seat's hand is the file of its ring: a log in its hand, or a spent one, whose disk failed since the ring was made
  abbrev pub IsFileInHand : Device D → SeatView (Piece D) → ℕ → Piece D → Type 0
  IsFileInHand device d place (Shard shard) = ⊥
  IsFileInHand device d place (Log kept) = IsLogInHand device d.about d.told.seen place kept
  IsFileInHand device d place (Spent disk front) =
      Fits device (Spent disk front) place d.about.shards d.about.vertices × Rose d.about.faults (device.faults disk)
