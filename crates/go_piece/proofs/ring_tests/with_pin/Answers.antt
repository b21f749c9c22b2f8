-- A shard with a pin more, or as it was.
use Rattle.std.proofs.Common.{sym, subst}
use Rattle.go_disk.specs.MemDisk.{mem_device}
use Rattle.go_rule.specs.Turns.{CanGive}
use Rattle.go_shard.specs.ShardState.{ShardState}
use Rattle.go_piece.specs.declared.piece.Piece.TheVariants.{Shard}
use Rattle.go_piece.specs.Meanings.{meaning_of}
use Rattle.go_piece.proofs.ShardCalls.{shard_pinned}
use Rattle.go_piece.proofs.Unchanged.{shard_unchanged}
use Rattle.go_piece.proofs.ring_tests.with_pin.Goals as goal

pub returns-in-Ok : goal.returns-in-Ok
returns-in-Ok c = λ f d place here held.
    let pinned = c.in-Ok.ensures in
    shard_pinned mem_device f d place c.args.shard c.pin.new.self c.free_pin-id.result c.in-Ok.field-0 here held c.free_pin-id.ensures.free pinned.0 pinned.1

pub returns-in-Err : goal.returns-in-Err
returns-in-Err c = λ f d place here held.
    subst (λ (s : ShardState). CanGive (meaning_of mem_device) f d place (Shard c.args.shard) (Shard s)) (sym c.in-Err.ensures)
    (shard_unchanged mem_device f d place c.args.shard here held)
