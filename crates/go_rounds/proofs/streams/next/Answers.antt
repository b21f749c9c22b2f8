-- `next`: the seat may stream on.
use Rattle.std.proofs.Common.{sym, subst}
use Rattle.go_disk.specs.MemDisk.{mem_device}
use Rattle.go_rule.specs.Views.{frame_of}
use Rattle.go_stream.specs.Streaming.{CanStream}
use Rattle.go_stream.proofs.Onward.{streams_on}
use Rattle.go_rounds.proofs.streams.next.Goals as goal

pub returns : goal.returns
returns g c =
    let t = c.args.ring.now.table.shared in
    let one = c.update.ensures in
    let asks = c.requires in
    let can =
    subst (CanStream t.table_id c.update.new.seat.table_id c.update.new.seat.me.0) (sym one.cursor)
    (streams_on mem_device (frame_of t.key) t.table_id.slots t.table_id c.args.seat.now.table_id c.update.new.seat.table_id c.args.seat.now.me
    c.update.new.seat.me (record { from = c.args.stream.now.cursor; most = c.args.max; floor = c.args.floor }) c.update.result c.update.new.out.items
    (record { at = asks.at; seen = asks.seen; ids = asks.ids }) one.stays.0 one.updates)
    in
    record { at = can.at; seen = can.seen; ids = can.ids; long = one.long }
