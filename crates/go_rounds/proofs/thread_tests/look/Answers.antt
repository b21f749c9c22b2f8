-- `look`: the view stays one of the seat's until it is released.
use Rattle.go_rounds.proofs.thread_tests.look.Goals as goal

pub shows-requires-2-clause-view : goal.shows-requires-2-clause-view
shows-requires-2-clause-view g c = c.shows.ensures.others c.in-Ok.view c.in-Ok.ensures.view

pub released-requires-clause-view : goal.released-requires-clause-view
released-requires-clause-view g c = c.shows-2.ensures.others c.in-Ok.view (c.shows.ensures.others c.in-Ok.view c.in-Ok.ensures.view)
