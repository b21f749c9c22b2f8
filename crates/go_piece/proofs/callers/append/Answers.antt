-- A batch that was taken in.
use Rattle.go_disk.specs.MemDisk.{mem_device}
use Rattle.go_piece.proofs.ShardCalls.{shard_appended}
use Rattle.go_piece.proofs.callers.append.Goals as goal

pub returns : goal.returns
returns c = λ f d place here held goes to.
    let e = c.in_ok-append.ensures in
    shard_appended mem_device f d place c.args.shard.now c.append.new.self c.args.batch.now c.args.front here held e.stands e.grown goes to
