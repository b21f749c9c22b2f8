-- A write, and one that fails though its place is a good one.
use Rattle.std.proofs.Common.{◌≤◌, ◌+◌, length, arith}
use Rattle.go_disk.specs.MemDisk.{contents_of}
use Rattle.go_disk.proofs.StepLemmas.{tears_failing, tears_writing}
use Rattle.go_disk.proofs.mem_calls.MemDiskDisk.write_at.Goals as goal

pub returns-then-is_listed-clause-tears : goal.returns-then-is_listed-clause-tears
returns-then-is_listed-clause-tears c =
    let within : c.args.at ≤ length (contents_of c.args.self.now) = omega arith in
    tears_failing c.args.self.now c.ask-is_there.new.self c.note_tear.new.self c.fault-then-is_listed.new.self c.args.at (length c.args.bytes.now)
    (c.args.at + 0) within
    c.ask-is_there.ensures.counted c.note_tear.ensures c.fault-then-is_listed.ensures

pub returns-clause-tears : goal.returns-clause-tears
returns-clause-tears c =
    let within : c.args.at ≤ length (contents_of c.args.self.now) = omega arith in
    tears_writing c.args.self.now c.ask-is_there.new.self c.note_write.new.self c.args.at
    (c.args.at + 0) c.args.bytes.now within c.ask-is_there.ensures.counted c.note_write.ensures
