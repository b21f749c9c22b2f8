-- A pin that was taken away.
use Rattle.go_disk.specs.MemDisk.{mem_device}
use Rattle.go_piece.proofs.ShardCalls.{shard_unpinned}
use Rattle.go_piece.proofs.callers.unpin.Goals as goal

pub returns : goal.returns
returns c = λ f d place here held mine.
    shard_unpinned mem_device f d place c.args.shard.now c.unpin.new.self c.args.id here held mine c.unpin.ensures
