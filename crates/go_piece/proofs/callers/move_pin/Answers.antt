-- A pin that was moved.
use Rattle.go_disk.specs.MemDisk.{mem_device}
use Rattle.go_piece.proofs.ShardCalls.{shard_pin_moved}
use Rattle.go_piece.proofs.callers.move_pin.Goals as goal

pub returns : goal.returns
returns c = λ f d place here held mine to.
    shard_pin_moved mem_device f d place c.args.shard.now c.move_pin.new.self c.args.id c.args.front here held mine c.requires.upwards to c.move_pin.ensures
