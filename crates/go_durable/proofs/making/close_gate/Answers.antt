-- `close_gate`: the gate stands closed already, or it is written.
use Rattle.std.proofs.Common.{ℕ, ◌<◌, arith}
use Rattle.std.specs.Prelude.{IfSome}
use Rattle.go_durable.specs.Attaching.{IsLeft}
use Rattle.go_durable.specs.Moments.{LeavesOnly}
use Rattle.go_durable.specs.Reading.{IsUnmadeOf}
use Rattle.go_durable.specs.Standing.{IsQuiet}
use Rattle.go_durable.specs.Writing.{IsTornOf}
use Rattle.go_durable.proofs.Moments.{no_call, weaker}
use Rattle.go_durable.proofs.Asking.{first_is_there}
use Rattle.go_durable.proofs.Headers.{seen_is_left, gate_is_left, gate_is_closed, gate_was_closed}
use Rattle.go_durable.proofs.making.close_gate.Given.{Over}
use Rattle.go_durable.proofs.making.close_gate.Goals.{After-write_through}
use Rattle.go_durable.proofs.making.close_gate.Goals as goal

-- the moments of the write
closing : (g : Over) (c : After-write_through g) (v : ℕ) → IsQuiet g.D.Disk.device c.args.disk.now
    → IfSome (g.D.Disk.device.contents c.args.disk.now) (IsUnmadeOf c.args.len) →
    LeavesOnly g.D.Disk.device c.args.disk.now c.write_through.new.disk (IsLeft v (g.D.Disk.device.contents c.args.disk.now))
closing g c v quiet unmade =
    weaker g.D.Disk.device c.args.disk.now c.write_through.new.disk (IsTornOf (g.D.Disk.device.contents c.args.disk.now) 0 1)
    (IsLeft v (g.D.Disk.device.contents c.args.disk.now))
    (λ image torn. gate_is_left v c.args.len (g.D.Disk.device.contents c.args.disk.now) image unmade (omega arith) torn)
    (c.write_through.ensures.moments quiet (first_is_there (g.D.Disk.device.contents c.args.disk.now)))

pub returns-then-len-ge2-clause-moments : goal.returns-then-len-ge2-clause-moments
returns-then-len-ge2-clause-moments g c = λ v quiet unmade.
    no_call g.D.Disk.device g.met.D.Disk.rules c.args.disk.now (IsLeft v (g.D.Disk.device.contents c.args.disk.now))
    (λ image is. seen_is_left v (g.D.Disk.device.contents c.args.disk.now) image (quiet.only image is))

pub returns-then-len-ge2-clause-done : goal.returns-then-len-ge2-clause-done
returns-then-len-ge2-clause-done g c = λ quiet unmade.
    let was = gate_was_closed c.args.len (g.D.Disk.device.contents c.args.disk.now) unmade (omega arith) in
    record { shut = record { quiet = quiet; closed = was.0 }; short = was.1 }

pub returns-in_default-clause-moments : goal.returns-in_default-clause-moments
returns-in_default-clause-moments g c = closing g (goal.at.returns-in_default-clause-moments g c).After-write_through

pub returns-clause-moments : goal.returns-clause-moments
returns-clause-moments g c = closing g (goal.at.returns-clause-moments g c).After-write_through

pub returns-clause-done : goal.returns-clause-done
returns-clause-done g c = λ quiet unmade.
    let short : c.args.len < 2 = omega arith in
    let written = c.in-Ok.ensures.done quiet in
    let is = gate_is_closed c.args.len (g.D.Disk.device.contents c.args.disk.now)
    (g.D.Disk.device.contents c.write_through.new.disk) unmade short written.holds in
    record { shut = record { quiet = written.quiet; closed = is.0 }; short = is.1 }
