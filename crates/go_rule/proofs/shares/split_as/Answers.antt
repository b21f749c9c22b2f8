-- `split_as`: the split keeps the rule.
use Rattle.std.proofs.Common.{arith}
use Rattle.go_rule.specs.Meaning.{meaning}
use Rattle.go_rule.proofs.Sharing.{split_allowed}
use Rattle.go_rule.proofs.shares.split_as.Goals as goal

pub split_seat-requires : goal.split_seat-requires
split_seat-requires g c =
    let t = c.args.ring.now.table.shared in
    let words = c.args.ring.now.words_is in
    let seat = c.args.seat.now in (
      c.requires.at.0,
      omega arith,
      split_allowed (meaning g.T.Part)
          (record { stands_on = g.met.T.Part.stands_on; recovers_on = g.met.T.Part.recovers_on }) t.key seat.id seat.me.0 g.E.Shares.quota g.E.Shares.lot
          c.requires.at.1
          c.requires.quota c.requires.some c.requires.lot,
    )
