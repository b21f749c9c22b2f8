-- What `move_out` leads to.
use Rattle.std.proofs.Common.{refl}
use Rattle.go_api.specs.declared.stop.Stop.TheVariants as stops
use Rattle.go_plain.proofs.StandingLemmas.{stays_on}
use Rattle.go_plain.proofs.StoreLemmas.{moved_out, not_moved, met_by}
use Rattle.go_plain.proofs.body.Body.move_out.Goals as goal

pub returns-in-Ok : goal.returns-in-Ok
returns-in-Ok g c = record {
  moved = moved_out c.args.self.now c.flush.new.self c.archive.new.self c.flush.ensures.only c.in_default.ensures.flushes c.in-Ok.ensures.ok;
  stays = stays_on g.D.Disk.device c.args.self.now c.flush.new.self c.archive.new.self c.flush.ensures.stays c.archive.ensures.stays;
}

pub returns-in-Err : goal.returns-in-Err
returns-in-Err g c = record {
  moved = not_moved c.args.self.now c.flush.new.self c.flush.new.self c.in-Err.why c.in-Err.ensures.only refl
      (met_by c.args.self.now c.flush.new.self c.in-Err.why c.in-Err.ensures.flushes);
  stays = c.in-Err.ensures.stays;
}
