-- `pin_place`: the shard has a pin more or was refused one, and goes back.
use Rattle.std.proofs.Common.{arith}
use Rattle.go_core.specs.Parts.{IsShardPlace}
use Rattle.go_rule.specs.Views.{frame_of}
use Rattle.go_piece.specs.Meanings.{meaning_of}
use Rattle.go_views.proofs.ShardHanded.{may_so, gave_so}
use Rattle.go_views.proofs.PlaceTurns.{pinned_at}
use Rattle.go_views.proofs.pinning.pin_place.Goals as goal

pub give_piece-requires-clause-may : goal.give_piece-requires-clause-may
give_piece-requires-clause-may g c =
    let device = g.D.Disk.device in
    let ring = c.args.ring.now in
    let f = frame_of ring.table.shared.key in
    let place = c.args.place in
    let me = c.args.seat.now.me in
    let now = c.take_piece-part.new.seat.me in
    let part = c.take_piece-part.result.part in
    let shards = ring.shards_is in
    let less = c.requires.place in
    let here : IsShardPlace f place = omega arith in
    may_so device f place part me now c.take_piece-part.ensures.takes c.take_piece-part.result.key.place c.pinned-piece.result.piece c.take_piece-part.ensures.key
    (c.pinned-piece.ensures.gives f now.0 place here c.take_piece-part.ensures.held)

pub returns-clause-pinned : goal.returns-clause-pinned
returns-clause-pinned g c =
    let device = g.D.Disk.device in
    let ring = c.args.ring.now in
    let f = frame_of ring.table.shared.key in
    let place = c.args.place in
    let me = c.args.seat.now.me in
    let now = c.take_piece-part.new.seat.me in
    let part = c.take_piece-part.result.part in
    let shards = ring.shards_is in
    let less = c.requires.place in
    let here : IsShardPlace f place = omega arith in
    let after = c.give_piece.new.seat.me in
    let piece = c.pinned-piece.result.piece in
    pinned_at (meaning_of device) f place part piece me now after here c.take_piece-part.ensures.takes
    (gave_so device f place part me now c.take_piece-part.ensures.takes c.take_piece-part.result.key.place piece c.take_piece-part.ensures.key after c.give_piece.ensures.gives)
    c.pinned-piece.result.name c.pinned-piece.ensures.pins
