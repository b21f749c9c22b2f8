-- The entries of a span: those from the file, and behind them those from the ring.
use Rattle.std.proofs.Common.{◌≡◌, ℕ, ◌+◌, ◌-◌, ◌≤◌, List, ◌++◌, length, take, drop, sym, refl, ap, ◌∙◌, inl, inr, ⊎_elim, arith, length-append}
use Rattle.std.specs.Prelude.{min, max}
use Rattle.std.proofs.Math.Seq.{take-add, drop-append_seam}
use Rattle.std.proofs.lemmas.List.{drop-drop, length-take-le, length-drop}
use Rattle.atomic_table.specs.Table.{Me}
use Rattle.go_word.specs.declared.edge.Edge.{Edge}
use Rattle.go_api.specs.declared.answers.Span.{Span}
use Rattle.go_api.specs.declared.stop.Stop.{Stop}
use Rattle.go_api.specs.declared.stop.Stop.TheVariants as stops
use Rattle.go_core.specs.Frame.{Frame}
use Rattle.go_disk.specs.Device.{Device}
use Rattle.go_rule.specs.declared.view.SeatView.{SeatView}
use Rattle.go_rule.specs.Views.{with_raised}
use Rattle.go_ring.specs.declared.copied.Copied.{Copied}
use Rattle.go_ring.specs.Calls.{cause_of}
use Rattle.go_turns.specs.Going.{but_known, HasGoneOn, IsFlagged}
use Rattle.go_turns.proofs.Going.{knows_further, gone_further}
use Rattle.go_piece.specs.declared.piece.Piece.{Piece}
use Rattle.go_piece.specs.Meanings.{stretch}
use Rattle.go_stream.specs.declared.wanted.Wanted.{Wanted}
use Rattle.go_stream.specs.Spans.{upto, entries_from}
use Rattle.go_stream.specs.Updates.{HasFailed, HasCome, IsRead, IsUpdated, Stops, ring_from}
use Rattle.go_stream.proofs.Entries.{entries_seen}

-- a stretch up to a place, and the one from there on
stretches : (from middle to : ℕ) (log : List Edge) → from ≤ middle → middle ≤ to → stretch from middle log ++ stretch middle to log ≡ stretch from to log
stretches from middle to log low high =
    let n = middle - from in
    let k = to - middle in
    let there : drop n (drop from log) ≡ drop middle log = drop-drop n from log ∙ ap (λ j. drop j log) (omega arith) in
    ap (λ l. take n (drop from log) ++ take k l) (sym there) ∙ sym (take-add n k (drop from log)) ∙ ap (λ j. take j (drop from log)) (omega arith)

-- how long a stretch of a log is that goes so far
stretch_long : (from to : ℕ) (log : List Edge) → to ≤ length log → length (stretch from to log) ≡ to - from
stretch_long from to log within = let left = length-drop from log in length-take-le (to - from) (drop from log) (omega arith)

module _ {P : Type 0} where
  -- a seat that went on, and raised the flag then, has gone on since it might have raised that
  raised_further : (f : Frame) (d e : SeatView P) (why : ℕ) → HasGoneOn f d e → HasGoneOn f (with_raised why d) (with_raised why e)
  raised_further f d e why on =
      record {
        knows = record {
          begins = on.knows.begins;
          seen = on.knows.seen;
          taken = on.knows.taken;
          head = on.knows.head;
          archived = on.knows.archived;
          durable = on.knows.durable;
          passed = on.knows.passed;
          flagged = λ is. refl;
        };
        rest = ap (λ z. but_known (with_raised why z)) on.rest;
        pins = on.pins;
      }

module _ {D : Type 0} (device : Device D) (f : Frame) where
  -- what stopped a seat that had gone on before
  pub stops_after : {S : Type 0} (slots : ℕ) (why : Stop) (first me now : Me S (SeatView (Piece D))) → HasGoneOn f first.0 me.0
      → Stops device f slots why me now → Stops device f slots why first now
  stops_after slots stops.Disk first me now before one =
      ⊎_elim
      (λ (up : IsFlagged f slots (cause_of stops.Disk) me now).
      inl (record {
        before = up.before;
        after = up.after;
        came = knows_further first.0 me.0 up.before.0 before.knows up.came;
        load = up.load;
        left = up.left;
        on = gone_further f first.0 me.0 now.0 before up.on;
      }))
      (λ (failed : HasFailed device f me.0 now.0).
      inr (record {
        kept = failed.kept;
        held = failed.held;
        disk = failed.disk;
        rose = failed.rose;
        on = gone_further f (with_raised 1 first.0) (with_raised 1 me.0) now.0 (raised_further f first.0 me.0 1 before) failed.on;
      }))
      one
  stops_after slots stops.Memory first me now before one = gone_further f first.0 me.0 now.0 before one

  module _ (wanted : Wanted) (d mid now : SeatView (Piece D)) (copied : Copied) (buf : List ℕ) (span : Span) (middle : ℕ) where
    -- the entries that were read and those of the words behind them are a span
    pub updated : (file list : List Edge) → HasCome f wanted d mid copied buf → IsRead device f span.from middle mid now file
        → list ≡ file ++ entries_from f.slots middle (span.to - middle) buf → span.from ≡ wanted.from → span.to ≡ upto wanted copied.end
        → middle ≡ min span.to (max span.from (min copied.archived copied.durable)) → wanted.from ≤ copied.end
        → IsUpdated device f wanted d now span list
    updated file list come read list_is from_is to_is middle_is within =
        let from = span.from in
        let to = span.to in
        let seen = now.told.seen in
        let ring = entries_from f.slots middle (to - middle) buf in
        let sees = come.sees in
        let low : from ≤ middle = omega arith in
        let high : middle ≤ to = omega arith in
        let seen_long : length seen ≡ length mid.told.seen = ap length read.seen in
        let archived = read.archived ∙ come.archived in
        let durable = read.durable ∙ come.durable in
        let at : ring_from now span ≡ middle = omega arith in
        let ring_is : ring ≡ stretch middle to seen =
        entries_seen f.slots buf mid.told.seen (to - middle) middle (λ q least most. come.entries q (omega arith) (omega arith))
        ∙ ap (stretch middle to) (sym read.seen)
        in
        let ring_long : length ring ≡ to - middle = ap length ring_is ∙ stretch_long middle to seen (omega arith) in
        let file_long = read.so_many in
        let long : length list ≡ length file + length ring = ap length list_is ∙ length-append file ring in
        record {
          span_is = record { end = copied.end; floor = come.floor; seen_before = come.seen_before; sees = omega arith; from = from_is; to = to_is };
          gives = record {
            so_many = omega arith;
            ring = ap (λ k. drop k list) {x = ring_from now span - from} {y = length file} (omega arith) ∙ ap (drop (length file)) list_is
                ∙ drop-append_seam file ring ∙ ring_is ∙ ap (λ k. stretch k to seen) (sym at);
            file = λ told. list_is ∙ ap (λ l. l ++ ring) (read.shown told) ∙ ap (λ l. stretch from middle seen ++ l) ring_is
                ∙ stretches from middle to seen low high;
          };
          on = gone_further f d mid now come.on read.on;
          long = seen_long ∙ come.long ∙ sym read.seen_to;
        }
