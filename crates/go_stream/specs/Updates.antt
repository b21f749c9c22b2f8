-- What an update gives, and what its seat has afterwards.
use Rattle.std.specs.Prelude.{◌≡◌, ◌⊎◌, ℕ, ◌+◌, ◌-◌, ◌%◌, ◌<◌, ◌≤◌, min, max, true, List, length, drop, slice_index, Result, Ok, Err}
use mathlib.Core.Option.{some}
use lib.ListN.{get_elem?}
use Rattle.atomic_table.specs.Table.{Me}
use Rattle.go_text.specs.Causes.{Rose}
use Rattle.go_word.specs.declared.edge.Edge.{Edge}
use Rattle.go_word.specs.Word.{decode}
use Rattle.go_api.specs.declared.answers.Span.{Span}
use Rattle.go_api.specs.declared.stop.Stop.{Stop}
use Rattle.go_api.specs.declared.stop.Stop.TheVariants.{Disk, Memory}
use Rattle.go_core.specs.Frame.{Frame}
use Rattle.go_disk.specs.Device.{Device}
use Rattle.go_durable.specs.LogState.{LogState}
use Rattle.go_rule.specs.declared.view.SeatView.{SeatView}
use Rattle.go_rule.specs.Views.{with_raised}
use Rattle.go_ring.specs.declared.copied.Copied.{Copied}
use Rattle.go_ring.specs.Calls.{cause_of}
use Rattle.go_turns.specs.Going.{HasGoneOn, IsFlagged}
use Rattle.go_piece.specs.declared.piece.Piece.{Piece}
use Rattle.go_piece.specs.Meanings.{stretch, IsLogInHand}
use Rattle.go_stream.specs.declared.wanted.Wanted.{Wanted}
use Rattle.go_stream.specs.Spans.{upto}

-- where a stream stands after an update: behind what was given, and where it stood if the update was stopped
abbrev pub cursor_after : ℕ → Result Span Stop → ℕ
cursor_after cursor (Ok span) = span.to
cursor_after cursor (Err why) = cursor

module _ {P : Type 0} where
  -- from where on the entries of a span come from the ring: those before the lesser front that the seat knows left it
  abbrev pub ring_from : SeatView P → Span → ℕ
  ring_from d span = min span.to (max span.from (min d.core.archived d.core.durable))

  -- a span of what a seat has seen: from where the stream stood, so many entries at most, by an end that isn't below the floor and what the seat had seen
  pub record IsSpan (wanted : Wanted) (d now : SeatView P) (span : Span) : Type 0 where
    pub end : ℕ
    pub floor : wanted.floor ≤ end
    pub seen_before : d.core.seen ≤ end
    pub sees : end ≤ length now.told.seen
    pub from : span.from ≡ wanted.from
    pub to : span.to ≡ upto wanted end

  -- the ring was copied: up to an end that isn't below the floor and what the seat had seen, it has seen the log, and from the lesser front on the buffer
  -- has the entries of the span
  pub record HasCome (f : Frame) (wanted : Wanted) (d now : SeatView P) (copied : Copied) (buf : List ℕ) : Type 0 where
    pub on : HasGoneOn f d now
    pub floor : wanted.floor ≤ copied.end
    pub seen_before : d.core.seen ≤ copied.end
    pub sees : copied.end ≤ length now.told.seen
    pub long : length now.told.seen ≡ now.core.seen
    pub archived : now.core.archived ≡ copied.archived
    pub durable : now.core.durable ≡ copied.durable
    pub entries : (p : ℕ) → min copied.archived copied.durable ≤ p → p < upto wanted copied.end
        → get_elem? now.told.seen p ≡ some (decode (slice_index buf (p % f.slots)))

module _ {D : Type 0} (device : Device D) where
  -- the entries of a span of the log, as many as it is long: those from the ring are the log's, and those from the file where each such disk tells
  pub record Gives (now : SeatView (Piece D)) (span : Span) (list : List Edge) : Type 0 where
    pub so_many : span.from + length list ≡ span.to
    pub ring : drop (ring_from now span - span.from) list ≡ stretch (ring_from now span) span.to now.told.seen
    pub file : now.about.tells ≡ true → list ≡ stretch span.from span.to now.told.seen

  module _ (f : Frame) where
    -- the disk of the log's file failed while the seat had that in its hand, its count of faults rose, and the seat raised the flag for it
    pub record HasFailed (d now : SeatView (Piece D)) : Type 0 where
      pub kept : LogState D
      pub held : IsLogInHand device now.about now.told.seen now.about.shards kept
      pub disk : D
      pub rose : Rose (device.faults kept.disk) (device.faults disk)
      pub on : HasGoneOn f (with_raised 1 d) now

    -- the entries from one place in the log up to another were read from the file, and the seat knows of the log what it knew
    pub record IsRead (from to : ℕ) (d now : SeatView (Piece D)) (list : List Edge) : Type 0 where
      pub on : HasGoneOn f d now
      pub seen : now.told.seen ≡ d.told.seen
      pub seen_to : now.core.seen ≡ d.core.seen
      pub archived : now.core.archived ≡ d.core.archived
      pub durable : now.core.durable ≡ d.core.durable
      pub so_many : from + length list ≡ to
      pub shown : now.about.tells ≡ true → list ≡ stretch from to now.told.seen

    -- an update gave a span, and its seat raised nothing
    pub record IsUpdated (wanted : Wanted) (d now : SeatView (Piece D)) (span : Span) (list : List Edge) : Type 0 where
      pub span_is : IsSpan wanted d now span
      pub gives : Gives now span list
      pub on : HasGoneOn f d now
      pub long : length now.told.seen ≡ now.core.seen

    module _ {S : Type 0} (slots : ℕ) where
      -- what may stop it: for the disk, that a load of the flag gave this, or that the disk failed in hand
      abbrev pub Stops : Stop → Me S (SeatView (Piece D)) → Me S (SeatView (Piece D)) → Type 0
      Stops Disk me now = IsFlagged f slots (cause_of Disk) me now ⊎ HasFailed me.0 now.0
      Stops Memory me now = HasGoneOn f me.0 now.0

      -- what reading from the file comes to
      abbrev pub ReadsFile : {T : Type 0} → ℕ → ℕ → Result T Stop → Me S (SeatView (Piece D)) → Me S (SeatView (Piece D)) → List Edge → Type 0
      ReadsFile from to (Ok done) me now list = IsRead from to me.0 now.0 list
      ReadsFile from to (Err why) me now list = Stops why me now

      -- what an update comes to
      abbrev pub Updates : Wanted → Result Span Stop → Me S (SeatView (Piece D)) → Me S (SeatView (Piece D)) → List Edge → Type 0
      Updates wanted (Ok span) me now list = IsUpdated wanted me.0 now.0 span list
      Updates wanted (Err why) me now list = Stops why me now
