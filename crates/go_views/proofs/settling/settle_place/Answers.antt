-- `settle_place`: the shard has the pin at the archived front, is counted there or was refused that, and goes back.
use Rattle.std.proofs.Common.{◌≡◌, ◌++◌, ◌≤◌, List, ℕ, take, sym, subst, arith}
use Rattle.std.specs.Prelude.{All}
use Rattle.go_core.specs.Parts.{IsShardPlace}
use Rattle.go_rule.specs.Rule.{pins_at}
use Rattle.go_rule.specs.Views.{frame_of}
use Rattle.go_turns.proofs.Handed.{on_ok}
use Rattle.go_turns.proofs.Handing.{told_of}
use Rattle.go_piece.specs.Pieces.{OnShard}
use Rattle.go_piece.specs.Meanings.{meaning_of}
use Rattle.go_views.specs.PlaceTurns.{CanShift}
use Rattle.go_views.specs.Settling.{AddsCounts, AreRaw}
use Rattle.go_views.proofs.ShardHanded.{owned_so, known_so, may_so, gave_so}
use Rattle.go_views.proofs.PlaceTurns.{shifted_at}
use Rattle.go_views.proofs.ShardsPinned.{can_shift, counts_raw}
use Rattle.go_views.proofs.settling.settle_place.Goals as goal

pub settled-piece-requires : goal.settled-piece-requires
settled-piece-requires g c =
    let device = g.D.Disk.device in
    let ring = c.args.ring.now in
    let f = frame_of ring.table.shared.key in
    let place = c.args.place in
    let me = c.args.seat.now.me in
    let now = c.take_piece-part.new.seat.me in
    let part = c.take_piece-part.result.part in
    let shards = ring.shards_is in
    let less = c.requires.place in
    let here : IsShardPlace f place = omega arith in
    let archived = c.requires.known.0 in
    subst (λ a. OnShard (CanShift c.args.name a) part) archived
    (can_shift device f me.0 place c.args.name part here c.take_piece-part.ensures.takes.turn.about.0 (told_of (meaning_of device) f place part me now c.take_piece-part.ensures.takes)
    c.requires.named (subst (λ a. All (λ pin. pin.front ≤ a) (pins_at place me.0)) (sym archived) c.requires.upwards))

pub give_piece-requires-clause-may : goal.give_piece-requires-clause-may
give_piece-requires-clause-may g c =
    let device = g.D.Disk.device in
    let ring = c.args.ring.now in
    let f = frame_of ring.table.shared.key in
    let place = c.args.place in
    let me = c.args.seat.now.me in
    let now = c.take_piece-part.new.seat.me in
    let part = c.take_piece-part.result.part in
    let shards = ring.shards_is in
    let less = c.requires.place in
    let here : IsShardPlace f place = omega arith in
    let archived = c.requires.known.0 in
    let known = known_so device f place part me now c.take_piece-part.ensures.takes in
    may_so device f place part me now c.take_piece-part.ensures.takes c.take_piece-part.result.key.place c.settled-piece.result.piece c.take_piece-part.ensures.key
    (c.settled-piece.ensures.gives f now.0 place here c.take_piece-part.ensures.held (owned_so device f place part me now c.take_piece-part.ensures.takes c.args.name c.requires.named)
    (omega arith))

pub returns-clause-settled : goal.returns-clause-settled
returns-clause-settled g c =
    let device = g.D.Disk.device in
    let ring = c.args.ring.now in
    let f = frame_of ring.table.shared.key in
    let place = c.args.place in
    let me = c.args.seat.now.me in
    let now = c.take_piece-part.new.seat.me in
    let part = c.take_piece-part.result.part in
    let shards = ring.shards_is in
    let less = c.requires.place in
    let here : IsShardPlace f place = omega arith in
    let after = c.give_piece.new.seat.me in
    let piece = c.settled-piece.result.piece in
    shifted_at (meaning_of device) f place part piece me now after here c.take_piece-part.ensures.takes
    (gave_so device f place part me now c.take_piece-part.ensures.takes c.take_piece-part.result.key.place piece c.take_piece-part.ensures.key after c.give_piece.ensures.gives)
    c.args.name c.args.archived c.requires.named c.settled-piece.ensures.pins

pub returns-clause-counted : goal.returns-clause-counted
returns-clause-counted g c =
    let device = g.D.Disk.device in
    let ring = c.args.ring.now in
    let f = frame_of ring.table.shared.key in
    let place = c.args.place in
    let me = c.args.seat.now.me in
    let now = c.take_piece-part.new.seat.me in
    let part = c.take_piece-part.result.part in
    let shards = ring.shards_is in
    let less = c.requires.place in
    let here : IsShardPlace f place = omega arith in
    let told = told_of (meaning_of device) f place part me now c.take_piece-part.ensures.takes in
    let archived = c.requires.known.0 in
    let seen = c.requires.known.1 in
    let base = c.take_piece-part.ensures.takes.turn.about.0 in
    let same : me.0.about.shards ≡ ring.shards = omega arith in
    let before = c.args.list.now.items in
    let then = c.settled-piece.new.list.items in
    let can = can_shift device f me.0 place c.args.name part here base told c.requires.named
    (subst (λ a. All (λ pin. pin.front ≤ a) (pins_at place me.0)) (sym archived) c.requires.upwards) in
    on_ok c.settled-piece.result.counted
    (λ (adds : OnShard (AddsCounts c.args.archived before then) part).
    subst (λ n. (counts : List ℕ) × (then ≡ before ++ counts) × AreRaw n me.0.about.vertices place (take c.args.archived me.0.told.seen) counts) same
    (subst (λ a. (counts : List ℕ) × (then ≡ before ++ counts) × AreRaw me.0.about.shards me.0.about.vertices place (take a me.0.told.seen) counts) archived
    (counts_raw device f me.0 place c.args.name part before then here base told can (omega arith)
    (subst (λ a. OnShard (AddsCounts a before then) part) (sym archived) adds)))) c.settled-piece.ensures.counted
