-- The entry at the place has other bytes.
use Rattle.go_io.proofs.EntryLemmas.{replaced_held}
use Rattle.go_io.proofs.mem_shelf.replace_bytes.Goals as goal

pub returns : goal.returns
returns c = replaced_held c.args.entries.now c.args.place c.index-entries-place.result c.args.bytes
