-- A pin that was put in.
use Rattle.go_disk.specs.MemDisk.{mem_device}
use Rattle.go_piece.proofs.ShardCalls.{shard_pinned}
use Rattle.go_piece.proofs.callers.pin.Goals as goal

pub returns : goal.returns
returns c = λ f d place here held.
    let e = c.in_ok-front.ensures in
    shard_pinned mem_device f d place c.args.shard.now c.pin.new.self c.free_pin-id.result c.in_ok-front.front here held c.free_pin-id.ensures.free e.0 e.1
