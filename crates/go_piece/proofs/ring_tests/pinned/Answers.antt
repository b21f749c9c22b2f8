-- A piece that lies in a shard's place, with a pin more, or as it was.
use Rattle.std.proofs.Common.{sym, subst}
use Rattle.go_disk.specs.MemDisk.{mem_device}
use Rattle.go_rule.specs.Turns.{taking, IsTaken, CanGive}
use Rattle.go_piece.specs.declared.piece.Piece.TheVariants.{Shard}
use Rattle.go_piece.specs.Meanings.{meaning_of}
use Rattle.go_piece.proofs.Unchanged.{shard_in_hand, place_unchanged}
use Rattle.go_piece.proofs.ring_tests.pinned.Goals as goal

pub returns-in-Shard : goal.returns-in-Shard
returns-in-Shard c = λ f d place here base taken.
    let m = meaning_of mem_device in
    let shard = c.in-Shard.shard in
    let held = shard_in_hand mem_device f d place shard here (subst (λ p. IsTaken m f d place p) c.in-Shard.is taken) in
    subst (λ p. CanGive m f (taking place p d) place p c.with_pin.result) (sym c.in-Shard.is)
    (c.with_pin.ensures f (taking place (Shard shard) d) place here held)

pub returns-in_default : goal.returns-in_default
returns-in_default c = λ f d place here base taken. place_unchanged mem_device f d place c.args.piece here base taken
