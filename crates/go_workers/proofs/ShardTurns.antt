-- A turn of a shard in which it is compacted.
use Rattle.std.proofs.Common.{◌≡◌, ℕ, ◌+◌, ◌≤◌, arith, subst}
use Rattle.std.specs.Prelude.{All, Option as Maybe}
use Rattle.std.proofs.lemmas.List.Elements.{All-head}
use mathlib.Core.Option.{none}
use Rattle.atomic_table.specs.Table.{Me, step}
use Rattle.go_core.specs.Frame.{Frame}
use Rattle.go_core.specs.Parts.{IsShardPlace}
use Rattle.go_disk.specs.Device.{Device}
use Rattle.go_rule.specs.declared.view.Note.{Note}
use Rattle.go_rule.specs.declared.view.SeatView.{SeatView}
use Rattle.go_rule.specs.Steps.{LoadsArchived}
use Rattle.go_rule.specs.Turns.{IsTaken}
use Rattle.go_turns.specs.Holding.{Takes, Gives}
use Rattle.go_piece.specs.declared.piece.Piece.{Piece}
use Rattle.go_piece.specs.declared.piece.Piece.TheVariants.{Shard, Log, Spent}
use Rattle.go_piece.specs.Pieces.{state_in, OnShard}
use Rattle.go_piece.specs.Meanings.{meaning_of}
use Rattle.go_workers.specs.Bringing.{IsCompactedPiece}
use Rattle.go_workers.specs.Turns.{CompactsAt}

module _ {D : Type 0} (device : Device D) (f : Frame) (slots place archived : ℕ) (me now then after : Me (Maybe (Piece D)) (SeatView (Piece D))) where
  -- the cut of a shard in hand is no further than the archived front that was loaded
  pub cut_known : (part : Piece D) → IsShardPlace f place → me.0.about.shards + 5 ≡ f.base → IsTaken (meaning_of device) f me.0 place part
      → Takes (meaning_of device) f place part me now → LoadsArchived state_in f (step slots 1 0 0 none) now archived then
      → OnShard (λ shard. shard.cut ≤ archived) part
  cut_known part here base taken takes loads = on part taken (first here)
    where
      first : IsShardPlace f place → (state_in part).cut ≤ archived
      first =
          All-head (λ (x : Note (Piece D)). IsShardPlace f x.place → (state_in x.part).cut ≤ archived) (record { place = place; part = part }) me.0.stake.notes
          (subst (All (λ (x : Note (Piece D)). IsShardPlace f x.place → (state_in x.part).cut ≤ archived)) takes.holds.noted loads.cuts)

      on : (piece : Piece D) → IsTaken (meaning_of device) f me.0 place piece → (state_in piece).cut ≤ archived → OnShard (λ shard. shard.cut ≤ archived) piece
      on (Shard shard) is low = low
      on (Log kept) is low = let at = is.fits.0 in absurd (omega arith)
      on (Spent disk front) is low = let at = is.fits.0 in absurd (omega arith)

  -- what was done in it
  pub compacts_at : (old new : Piece D) → Takes (meaning_of device) f place old me now → LoadsArchived state_in f (step slots 1 0 0 none) now archived then
      → IsCompactedPiece archived old new → Gives (meaning_of device) place new then after → CompactsAt device f slots place me after
  compacts_at (Shard old) (Shard new) takes loads is gives =
      record {
        shards = (old, new);
        held = now;
        loaded = then;
        archived = archived;
        takes = takes;
        loads = loads;
        compacted = is;
        gives = gives;
      }
  compacts_at (Shard old) (Log kept) takes loads is gives = absurd is
  compacts_at (Shard old) (Spent disk front) takes loads is gives = absurd is
  compacts_at (Log kept) new takes loads is gives = absurd is
  compacts_at (Spent disk front) new takes loads is gives = absurd is
