-- A shard that was compacted.
use Rattle.std.proofs.Common.{arith}
use Rattle.go_disk.specs.MemDisk.{mem_device}
use Rattle.go_piece.proofs.ShardCalls.{shard_compacted}
use Rattle.go_piece.proofs.callers.compact.Goals as goal

pub returns : goal.returns
returns c = λ f d place here held to.
    let e = c.in_ok-compact.ensures in
    let settled = c.settled-front.ensures in
    let within = settled.within in
    shard_compacted mem_device f d place c.args.shard.now c.compact.new.self c.settled-front.result here held e.stands e.forgotten settled.uncut (omega arith)
    settled.pinned
