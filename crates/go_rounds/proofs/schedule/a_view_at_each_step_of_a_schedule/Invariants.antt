-- `a_view_at_each_step_of_a_schedule`: each seat may do its part again, and the view that is held is the reader's.
use Rattle.std.proofs.Common.{◌≡◌, ◌+◌, true}
use Rattle.go_rule.specs.Steps.{IsAt}
use Rattle.go_workers.specs.Samples.{HasNothing, MayArchive}
use Rattle.go_views.specs.Views.{IsView}
use Rattle.go_rounds.proofs.schedule.a_view_at_each_step_of_a_schedule.Given as goal

abbrev pub invariant-loop-step : goal.invariant-loop-step
invariant-loop-step g l = record {
  archiver_at : IsAt l.ring.table.shared.table_id l.archiver.table_id l.archiver.me.0;
  archiver : HasNothing l.archiver.me × MayArchive 128 l.archiver.me.0;
  flusher_at : IsAt l.ring.table.shared.table_id l.flusher.table_id l.flusher.me.0;
  flusher : HasNothing l.flusher.me × (l.flusher.me.0.core.flushes ≡ true);
  compactor_at : IsAt l.ring.table.shared.table_id l.compactor.table_id l.compactor.me.0;
  session_at : IsAt l.ring.table.shared.table_id l.session.table_id l.session.me.0;
  session : HasNothing l.session.me;
  quota : l.session.me.0.share.quota + l.step ≡ 60;
  reader_at : IsAt l.ring.table.shared.table_id l.reader.table_id l.reader.me.0;
  reader : l.reader.me.0.about.vertices ≡ 8;
  held : IsView 2 l.held l.reader.me.0;
}
