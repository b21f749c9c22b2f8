-- `a_view_stays_what_it_was`: the first view stays as the second is asked.
use Rattle.go_views.proofs.tests.a_view_stays_what_it_was.Goals as goal

pub shows-requires-2-clause-view : goal.shows-requires-2-clause-view
shows-requires-2-clause-view g c = c.shows.ensures.others c.in_ok-first.field-0.first c.in_ok-first.ensures.first
