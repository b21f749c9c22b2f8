-- `open`: the ring begins ruled.
use Rattle.go_rule.specs.Meaning.{meaning}
use Rattle.go_rule.proofs.Openings.{opening_ruled}
use Rattle.go_rule.proofs.rule.Ring.open.Goals as goal

pub new-requires : goal.new-requires
new-requires g c =
    opening_ruled (meaning g.T.Part)
    c.args.key.now c.args.words.now
    c.args.slots.items c.requires.sizes.0 c.requires.words c.requires.parts
