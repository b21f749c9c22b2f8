-- `next_view`: the view that was held stays until it is released, and the next one stays then.
use Rattle.std.proofs.Common.{sym}
use Rattle.go_rounds.proofs.schedule.next_view.Goals as goal

pub shows-requires-2-clause-view : goal.shows-requires-2-clause-view
shows-requires-2-clause-view g c = c.shows.ensures.others c.args.held (c.taken.ensures.others c.args.held c.requires.held)

pub released-requires-clause-view : goal.released-requires-clause-view
released-requires-clause-view g c =
    c.shows-2.ensures.others c.args.held (c.shows.ensures.others c.args.held (c.taken.ensures.others c.args.held c.requires.held))

pub returns-clause-next : goal.returns-clause-next
returns-clause-next g c =
    let next = c.in-Ok.next in
    c.released.ensures.others next (λ place less same. c.in-Ok.ensures.apart c.args.held c.requires.held place less (sym same))
    (c.shows-2.ensures.others next (c.shows.ensures.others next c.in-Ok.ensures.view))
