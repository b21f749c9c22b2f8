-- What `finish` leaves.
use Rattle.std.proofs.Common.{◌-◌, List, length, take, drop}
use Rattle.go_word.specs.declared.edge.Edge.{Edge}
use Rattle.go_plain.proofs.PastLemmas.{journal_there, lacking_is}
use Rattle.go_plain.proofs.StoreLemmas.{can_append, ended_now}
use Rattle.go_plain.proofs.body.Body.finish.Goals as goal

pub returns : goal.returns
returns g c =
    let kept = journal_there c.self.inside.opened.value.disk c.self.inside.journal c.in-Some.journal c.in-Some.is in
    let lacking = c.front.result - c.self.inside.moved in
    let edges : List Edge = take (length c.entries.result.now - lacking) (drop lacking c.entries.result.now) in
    let are = lacking_is c.front.result c.self.inside.moved c.entries.result.now c.self.inside.ring.entries c.in-Some.journal _ kept c.front.ensures
    c.entries.ensures.exact in
    ended_now g.D.Disk.device _ c.self.inside.ring c.self.inside.shards.items c.self.invariant.1 c.args.self c.in-Some.journal edges c.finish.result
    c.self.view_is kept are c.finish.ensures

pub finish-requires : goal.finish-requires
finish-requires g c =
    let kept = journal_there c.self.inside.opened.value.disk c.self.inside.journal c.in-Some.journal c.in-Some.is in
    let lacking = c.front.result - c.self.inside.moved in
    let edges : List Edge = take (length c.entries.result.now - lacking) (drop lacking c.entries.result.now) in
    let are = lacking_is c.front.result c.self.inside.moved c.entries.result.now c.self.inside.ring.entries c.in-Some.journal _ kept c.front.ensures
    c.entries.ensures.exact in
    can_append g.D.Disk.device _ c.self.inside.ring c.self.inside.shards.items c.self.invariant.1 edges c.in-Some.journal kept are
