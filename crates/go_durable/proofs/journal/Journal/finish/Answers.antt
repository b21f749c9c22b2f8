-- What `finish` leaves.
use Rattle.go_durable.proofs.Finishing.{finishes}
use Rattle.go_durable.proofs.journal.Journal.finish.Goals as goal

pub returns : goal.returns
returns g c = λ v first log opened keeps are.
    finishes g.D.Disk.device g.met.D.Disk.rules v first log opened c.args.self c.flush-journal.result.journal c.args.edges.now _ keeps are
    c.flush-journal.ensures.keeps c.flush-journal.ensures.flushed
    (record { disk = c.into_disk.ensures; durable = c.front.ensures })
