-- `a_released_view_leaves_the_others`: the first view stays as the second is released.
use Rattle.go_views.proofs.tests.a_released_view_leaves_the_others.Goals as goal

pub shows-requires-clause-view : goal.shows-requires-clause-view
shows-requires-clause-view g c =
    let first = c.in_ok-first.field-0.first in
    c.have_pins-2.ensures.others first
    (c.released.ensures.others first c.in_ok-first.ensures.apart (c.have_pins.ensures.others first c.in_ok-first.ensures.first))

pub released-requires-2-clause-view : goal.released-requires-2-clause-view
released-requires-2-clause-view g c =
    let first = c.in_ok-first.field-0.first in
    c.shows.ensures.others first
    (c.have_pins-2.ensures.others first
    (c.released.ensures.others first c.in_ok-first.ensures.apart (c.have_pins.ensures.others first c.in_ok-first.ensures.first)))
