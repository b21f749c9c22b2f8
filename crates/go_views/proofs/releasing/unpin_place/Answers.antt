-- `unpin_place`: the shard is without the pin, and goes back.
use Rattle.std.proofs.Common.{arith}
use Rattle.go_core.specs.Parts.{IsShardPlace}
use Rattle.go_rule.specs.Views.{frame_of}
use Rattle.go_turns.proofs.Handing.{told_of}
use Rattle.go_piece.specs.Meanings.{meaning_of}
use Rattle.go_views.proofs.ShardHanded.{owned_so, may_so, gave_so}
use Rattle.go_views.proofs.PlaceTurns.{lost_at}
use Rattle.go_views.proofs.ShardsPinned.{has_pin}
use Rattle.go_views.proofs.releasing.unpin_place.Goals as goal

pub unpinned-piece-requires : goal.unpinned-piece-requires
unpinned-piece-requires g c =
    let device = g.D.Disk.device in
    let ring = c.args.ring.now in
    let f = frame_of ring.table.shared.key in
    let place = c.args.place in
    let me = c.args.seat.now.me in
    let now = c.take_piece-part.new.seat.me in
    let part = c.take_piece-part.result.part in
    let shards = ring.shards_is in
    let less = c.requires.place in
    let here : IsShardPlace f place = omega arith in
    has_pin device f me.0 place c.args.name part here c.take_piece-part.ensures.takes.turn.about.0 (told_of (meaning_of device) f place part me now c.take_piece-part.ensures.takes)
    c.requires.named

pub give_piece-requires-clause-may : goal.give_piece-requires-clause-may
give_piece-requires-clause-may g c =
    let device = g.D.Disk.device in
    let ring = c.args.ring.now in
    let f = frame_of ring.table.shared.key in
    let place = c.args.place in
    let me = c.args.seat.now.me in
    let now = c.take_piece-part.new.seat.me in
    let part = c.take_piece-part.result.part in
    let shards = ring.shards_is in
    let less = c.requires.place in
    let here : IsShardPlace f place = omega arith in
    may_so device f place part me now c.take_piece-part.ensures.takes c.take_piece-part.result.key.place c.unpinned-piece.result c.take_piece-part.ensures.key
    (c.unpinned-piece.ensures.gives f now.0 place here c.take_piece-part.ensures.held (owned_so device f place part me now c.take_piece-part.ensures.takes c.args.name c.requires.named))

pub returns-clause-unpinned : goal.returns-clause-unpinned
returns-clause-unpinned g c =
    let device = g.D.Disk.device in
    let ring = c.args.ring.now in
    let f = frame_of ring.table.shared.key in
    let place = c.args.place in
    let me = c.args.seat.now.me in
    let now = c.take_piece-part.new.seat.me in
    let part = c.take_piece-part.result.part in
    let shards = ring.shards_is in
    let less = c.requires.place in
    let here : IsShardPlace f place = omega arith in
    let after = c.give_piece.new.seat.me in
    let piece = c.unpinned-piece.result in
    lost_at (meaning_of device) f place part piece me now after here c.take_piece-part.ensures.takes
    (gave_so device f place part me now c.take_piece-part.ensures.takes c.take_piece-part.result.key.place piece c.take_piece-part.ensures.key after c.give_piece.ensures.gives)
    c.args.name c.unpinned-piece.ensures.pins
