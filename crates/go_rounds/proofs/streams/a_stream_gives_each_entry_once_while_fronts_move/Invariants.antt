-- `a_stream_gives_each_entry_once_while_fronts_move`: each seat may do its part again, and the stream may be updated again.
use Rattle.std.proofs.Common.{◌≡◌, ◌+◌, ◌*◌, ◌≤◌, true}
use Rattle.go_word.specs.declared.word.TheConstants.{ID_LIMIT}
use Rattle.go_rule.specs.Steps.{IsAt}
use Rattle.go_workers.specs.Samples.{HasNothing, MayArchive}
use Rattle.go_rounds.proofs.streams.a_stream_gives_each_entry_once_while_fronts_move.Given as goal

abbrev pub invariant-loop-step : goal.invariant-loop-step
invariant-loop-step g l = record {
  archiver_at : IsAt l.ring.table.shared.table_id l.archiver.table_id l.archiver.me.0;
  archiver : HasNothing l.archiver.me × MayArchive 128 l.archiver.me.0;
  flusher_at : IsAt l.ring.table.shared.table_id l.flusher.table_id l.flusher.me.0;
  flusher : HasNothing l.flusher.me × (l.flusher.me.0.core.flushes ≡ true);
  compactor_at : IsAt l.ring.table.shared.table_id l.compactor.table_id l.compactor.me.0;
  session_at : IsAt l.ring.table.shared.table_id l.session.table_id l.session.me.0;
  session : HasNothing l.session.me;
  quota : l.session.me.0.share.quota + 2 * l.step ≡ 192;
  reader_at : IsAt l.ring.table.shared.table_id l.reader.table_id l.reader.me.0;
  ids : l.reader.me.0.about.vertices ≤ ID_LIMIT;
  seen : l.stream.cursor ≤ l.reader.me.0.core.seen;
}
