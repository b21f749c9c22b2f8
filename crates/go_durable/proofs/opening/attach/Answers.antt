-- `attach`: what the opening left recovers to what it found.
use Rattle.std.proofs.Common.{sym, subst}
use Rattle.go_durable.specs.LogState.{OpenedLog}
use Rattle.go_durable.specs.Moments.{SettlesTo}
use Rattle.go_durable.specs.Recovery.{Recovers}
use Rattle.go_durable.specs.Handing.{kept_of}
use Rattle.go_durable.proofs.Recovered.{opening_recovers}
use Rattle.go_durable.proofs.opening.attach.Goals as goal

pub returns-in-Ok-clause-recovers : goal.returns-in-Ok-clause-recovers
returns-in-Ok-clause-recovers g c =
    let found : OpenedLog g.row.D.Denot = record { log = kept_of c.args.vertices c.open.new.disk c.in-Ok.contents; edges = c.in-Ok.contents.edges.items } in
    subst (λ (f : OpenedLog g.row.D.Denot). SettlesTo g.D.Disk.device c.args.disk f.log.disk (Recovers c.args.vertices f.edges)) (sym c.opened.ensures)
    (opening_recovers g.D.Disk.device c.args.vertices c.args.room c.args.disk c.open.new.disk found c.in-Ok.ensures.answer c.in-Ok.ensures.moments)
