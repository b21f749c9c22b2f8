-- A range that was read from the file.
use Rattle.go_disk.specs.MemDisk.{mem_device}
use Rattle.go_disk.specs.ImageLaws.{mem_rules}
use Rattle.go_piece.proofs.FileCalls.{file_read}
use Rattle.go_piece.proofs.callers.read.Goals as goal

pub returns : goal.returns
returns c = λ f d place here held raised.
    file_read mem_device f d place mem_rules c.args.log held c.read_range.result.journal here c.read_range.ensures.keeps c.read_range.ensures.front raised
