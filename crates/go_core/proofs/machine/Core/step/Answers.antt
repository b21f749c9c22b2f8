-- `step`: the machine stands, so its parties are ready, and each row keeps it tied.
use Rattle.std.proofs.Common.{refl}
use Rattle.go_core.specs.Machine.{machine_of}
use Rattle.go_core.proofs.Ready.{ready, stands_after, tied_after}
use Rattle.go_core.proofs.machine.Core.step.Goals as goal

pub one-requires : goal.one-requires
one-requires c =
    let n = c.self.inside in
    let is = ready (machine_of n.slots n.first n.words.items n.parties.items n.parts) c.args.event.now.party refl c.self.invariant in
    record { ready = record { some = is.some; few = is.few; words = is.words; taken = is.taken; storable = is.storable } }

pub invariant_of-self : goal.invariant_of-self
invariant_of-self c =
    let n = c.self.inside in
    stands_after n.slots n.first n.words.items c.one.new.words.items n.parties.items c.one.new.parties.items n.parts c.one.new.parts c.args.event.now.party
    c.args.event.now.act c.one.result c.self.invariant c.one.ensures.row
    (record { words_same = c.one.ensures.err_words; parties_same = c.one.ensures.err_parties; parts_same = c.one.ensures.err_parts })

pub returns-clause-tied : goal.returns-clause-tied
returns-clause-tied c =
    let n = c.self.inside in
    rw (← c.self.view_is)
    (tied_after n.slots n.first n.words.items c.one.new.words.items n.parties.items c.one.new.parties.items n.parts c.one.new.parts c.args.event.now.party
    c.args.event.now.act c.one.result c.one.ensures.row)
