-- A tally goes on, by the lemma.
use Rattle.go_net.proofs.TallyLemmas.{IsTally-add}
use Rattle.go_net.proofs.tally.add.Goals as goal

pub returns : goal.returns
returns c = λ removed added list tally.
    IsTally-add c.args.targets.now c.args.present.now c.count_up.new.counts removed added list c.args.d c.count_up.ensures.added c.count_up.ensures.bound
    c.count_up.ensures.others tally
