-- All that was left was read.
use Rattle.std.proofs.Common.{arith}
use Rattle.go_io.proofs.ReadLemmas.{whole_read}
use Rattle.go_io.proofs.folder_shelf.read_within.Goals as goal

pub returns-in-Ok-2-clause-answer : goal.returns-in-Ok-2-clause-answer
returns-in-Ok-2-clause-answer g c =
    let read = rw (
      c.take.ensures.inner,
      c.take.ensures.limit,
      c.saturating_add-most.ensures,
      c.reserve_exact.ensures.items,
      c.requires,
    ) at c.in-Ok.ensures.bytes in
    whole_read (g.F.Read.remaining c.args.file) c.read_to_end.new.buf.items c.args.limit read (omega arith) (omega arith)
