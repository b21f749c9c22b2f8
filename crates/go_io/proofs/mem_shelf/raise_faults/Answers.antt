-- The entry at the place has a higher count.
use Rattle.go_io.proofs.EntryLemmas.{counted_held}
use Rattle.go_io.proofs.mem_shelf.raise_faults.Goals as goal

pub returns : goal.returns
returns c = counted_held c.args.entries.now c.args.place c.index-entries-place.result c.one_more-entry.result c.one_more-entry.ensures
