-- `join`: the join keeps the rule.
use Rattle.std.proofs.Common.{arith}
use Rattle.go_rule.specs.Meaning.{meaning}
use Rattle.go_rule.proofs.Joining.{join_allowed}
use Rattle.go_rule.proofs.shares.join.Goals as goal

pub join_seat-requires : goal.join_seat-requires
join_seat-requires g c =
    let t = c.args.ring.now.table.shared in
    let words = c.args.ring.now.words_is in
    let seat = c.args.seat.now in
    let other = c.args.other in (
      c.requires.at.0,
      c.requires.other_at.0,
      c.requires.slots,
      omega arith,
      join_allowed (meaning g.T.Part)
          (record { stands_on = g.met.T.Part.stands_on; recovers_on = g.met.T.Part.recovers_on }) t.key seat.id other.id seat.me.0 other.me.0
          c.requires.at.1 c.requires.other_at.1
          c.requires.pending c.requires.notes,
    )
