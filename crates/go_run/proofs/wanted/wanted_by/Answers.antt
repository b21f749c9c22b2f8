-- What is wanted is within the limits.
use Rattle.go_run.proofs.wanted.wanted_by.Goals as goal

pub returns-clause-setup : goal.returns-clause-setup
returns-clause-setup c = record {
  some_vertices = c.in_ok-count_of.ensures.within.0;
  few_vertices = c.in_ok-count_of.ensures.within.1;
  enough_slots = c.in_ok-ring_of.ensures.within.0;
  few_slots = c.in_ok-ring_of.ensures.within.1;
  slots_double = c.in_ok-ring_of.ensures.double;
  some_shards = c.in_ok-count_of-2.ensures.within.0;
  few_shards = c.in_ok-count_of-2.ensures.within.1;
}
