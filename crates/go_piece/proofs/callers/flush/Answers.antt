-- Entries that were appended to the file.
use Rattle.go_disk.specs.MemDisk.{mem_device}
use Rattle.go_disk.specs.ImageLaws.{mem_rules}
use Rattle.go_piece.proofs.FileCalls.{file_flushed}
use Rattle.go_piece.proofs.callers.flush.Goals as goal

pub returns : goal.returns
returns c = λ f d place here held next to raised.
    file_flushed mem_device f d place mem_rules c.args.log c.args.edges.now held c.flush.result.journal here c.flush.ensures.keeps next to raised
