-- What the tests know of a seat after a turn, and that their ring may be opened.
use Rattle.std.proofs.Common.{◌≡◌, ℕ, ◌^◌, ◌<◌, List, [], length, sym, ap, ◌∙◌, arith, subst}
use Rattle.std.specs.Prelude.{◌+◌, ◌%◌, MatchResult, Result, Ok, Err, Option as Maybe}
use Rattle.atomic_table.specs.Table.{Me}
use Rattle.go_api.specs.declared.stop.Stop.{Stop}
use Rattle.go_api.specs.declared.stop.Stop.TheVariants as stops
use Rattle.go_word.specs.declared.edge.Edge.{Edge}
use Rattle.go_core.specs.Frame.{Frame}
use Rattle.go_core.specs.Parts.{IsShardPlace}
use Rattle.go_disk.specs.Device.{Device}
use Rattle.go_durable.specs.LogState.{LogState}
use Rattle.go_durable.specs.Standing.{IsLog}
use Rattle.go_shard.specs.Parts.{HaveParts}
use Rattle.go_shard.specs.ShardState.{ShardState}
use Rattle.go_rule.specs.declared.layout.Key.{Key}
use Rattle.go_rule.specs.declared.view.SeatView.{SeatView}
use Rattle.go_rule.specs.Turns.{IsTaken}
use Rattle.go_rule.specs.Views.{opened_of, with_raised}
use Rattle.go_turns.specs.Going.{HasGoneOn}
use Rattle.go_piece.specs.declared.piece.Piece.{Piece}
use Rattle.go_piece.specs.declared.piece.Piece.TheVariants.{Shard, Log, Spent}
use Rattle.go_piece.specs.Laying.{HaveOpened}
use Rattle.go_workers.specs.declared.turn.Turn.{Turn}
use Rattle.go_workers.specs.declared.turn.Turn.TheVariants.{Moved, Idle}
use Rattle.go_piece.specs.Pieces.{OnShard}
use Rattle.go_piece.specs.Meanings.{meaning_of}
use Rattle.go_workers.specs.Samples.{HasNothing, IsListable}
use Rattle.go_workers.specs.Turns.{Archives, Flushes, Refused, Stops}

-- shards without entries and a log without entries are what a ring from position 0 on begins with
pub sample_opened : {D : Type 0} (device : Device D) (key : Key (Piece D)) (shards : List ShardState) (kept : LogState D) (edges : List Edge)
    → opened_of key ≡ edges → length edges ≡ 0 → key.first ≡ 0 → key.quota < 2 ^ 31
    → ((log : List Edge) → HaveParts key.layout.vertices key.layout.shards 0 [] log shards) → IsLog device kept edges
    → kept.vertices ≡ key.layout.vertices → Log kept ≡ key.file.value → HaveOpened device key shards kept
sample_opened device key shards kept edges same none first quota parts stands vertices file =
    let long : length (opened_of key) ≡ length edges = ap length same in
    record {
      room = record { long = omega arith; below = λ k d within. absurd (omega arith); few = omega arith };
      parts = subst (λ n. HaveParts key.layout.vertices key.layout.shards n [] (opened_of key) shards) (sym first) (parts (opened_of key));
      stands = subst (IsLog device kept) (sym same) stands;
      vertices = vertices;
      file = file;
    }

module _ {P S : Type 0} where
  -- of what a turn leaves a seat, what the tests ask for
  pub record Remains (me now : Me S (SeatView P)) : Type 0 where
    pub live : now.0.core.live ≡ me.0.core.live
    pub pending : now.0.core.pending ≡ me.0.core.pending
    pub notes : now.0.stake.notes ≡ me.0.stake.notes
    pub slots : now.1 ≡ me.1
    pub share : now.0.share ≡ me.0.share
    pub about : now.0.about ≡ me.0.about
    pub archives : now.0.core.archives ≡ me.0.core.archives
    pub flushes : now.0.core.flushes ≡ me.0.core.flushes

  pub remains : (f : Frame) (was : SeatView P) (me now : Me S (SeatView P)) → HasGoneOn f was now.0 → now.1 ≡ me.1 → Remains (was, me.1) now
  remains f was me now gone hand =
      record {
        live = ap (λ d. d.core.live) gone.rest;
        pending = ap (λ d. d.core.pending) gone.rest;
        notes = ap (λ d. d.stake.notes) gone.rest;
        slots = hand;
        share = ap (λ d. d.share) gone.rest;
        about = ap (λ d. d.about) gone.rest;
        archives = ap (λ d. d.core.archives) gone.rest;
        flushes = ap (λ d. d.core.flushes) gone.rest;
      }

  -- a seat that had nothing has nothing
  pub nothing_then : (me now : Me S (SeatView P)) → Remains me now → HasNothing me → HasNothing now
  nothing_then me now same nothing =
      record { pending = same.pending ∙ nothing.pending; notes = same.notes ∙ nothing.notes; slots = same.slots ∙ nothing.slots }

  pub after_archive : {E : Type 0} (f : Frame) (shards room : ℕ) (me now : Me S (SeatView P)) (result : Result Turn E)
      → MatchResult result (λ turn. Archives f shards room me turn now) (λ why. Refused f me.0 me.0.core.archived now.0.core.archived me now)
      → Remains me now
  after_archive f shards room me now (Ok (Moved front)) is = remains f me.0 me now is.0.gone is.0.hand
  after_archive f shards room me now (Ok (Idle front)) is = remains f me.0 me now is.0.gone is.0.hand
  after_archive f shards room me now (Err why) is = remains f me.0 me now is.gone is.hand

pub after_flush : {D : Type 0} (device : Device D) (f : Frame) (place room : ℕ) (me now : Me (Maybe (Piece D)) (SeatView (Piece D))) (result : Result Turn Stop)
    → MatchResult result (λ turn. Flushes f place room me turn now) (λ why. Stops device f place me why now) → Remains me now
after_flush device f place room me now (Ok (Moved front)) is = remains f me.0 me now is.0.gone is.0.hand
after_flush device f place room me now (Ok (Idle front)) is = remains f me.0 me now is.gone is.hand
after_flush device f place room me now (Err stops.Memory) is = remains f me.0 me now is.gone is.hand
after_flush device f place room me now (Err stops.Disk) is =
    let after = remains f (with_raised 1 me.0) me now is.0.gone is.0.hand in
    record {
      live = after.live;
      pending = after.pending;
      notes = after.notes;
      slots = after.slots;
      share = after.share;
      about = after.about;
      archives = after.archives;
      flushes = after.flushes;
    }

-- a shard that a seat took tells of its vertices
pub listable : {D : Type 0} (device : Device D) (f : Frame) (d : SeatView (Piece D)) (place v : ℕ) (piece : Piece D) → IsShardPlace f place
    → d.about.shards + 5 ≡ f.base → IsTaken (meaning_of device) f d place piece → d.about.shards ≡ 2 → v % 2 ≡ place → v < d.about.vertices
    → OnShard (IsListable v) piece
listable device f d place v (Shard shard) here base taken two is below =
    let whose = taken.fits.1 in
    record {
      own =
          record {
            within = let vertices = whose.vertices_are in omega arith;
            turn = ap (λ n. v % n) (whose.shards_are ∙ two) ∙ is ∙ sym whose.index_is;
          };
      kept = (taken.shard here).own;
      uncut = taken.over.stands.cut;
    }
listable device f d place v (Log kept) here base taken two is below = let at = taken.fits.0 in absurd (omega arith)
listable device f d place v (Spent disk front) here base taken two is below = let at = taken.fits.0 in absurd (omega arith)
