-- What reading a range leads to.
use Rattle.std.proofs.Common.{subst, ◌≤◌}
use Rattle.go_durable.specs.Journal.{journal_front}
use Rattle.go_durable.specs.declared.journal.Journal.{Journal}
use Rattle.go_durable.proofs.JournalRanges.{keeps_read, is_ranged, read_fault}
use Rattle.go_durable.proofs.journal.Journal.read_range.Goals as goal

pub returns-in-Ok-clause-keeps : goal.returns-in-Ok-clause-keeps
returns-in-Ok-clause-keeps g c =
    rw c.in-Sound.is (keeps_read g.D.Disk.device _ c.in-Sound.log c.in-Ok.log c.in-Ok.ensures.answer c.in-Ok.ensures.moments c.in-Ok.ensures.count)

pub returns-in-Ok-clause-read : goal.returns-in-Ok-clause-read
returns-in-Ok-clause-read g c =
    let within = subst (λ (j : Journal g.row.D.Denot). c.args.b ≤ journal_front j) c.in-Sound.is c.requires.within in
    rw c.in-Sound.is (is_ranged g.D.Disk.device _ c.in-Sound.log c.in-Ok.log c.requires.order within c.in-Ok.ensures.answer)

pub returns-in-Err-Disk-clause-keeps : goal.returns-in-Err-Disk-clause-keeps
returns-in-Err-Disk-clause-keeps g c =
    rw (c.in-Sound.is, c.front-front.ensures) (read_fault g.D.Disk.device
    (record { from = c.args.a; upto = c.args.b; before = c.args.out.now.items; after = c.read_range.new.out.items }) c.in-Sound.log
    c.in-Err-Disk.field-0 c.in-Err-Disk.disk c.in-Err-Disk.field-0-is c.in-Err-Disk.ensures.answer c.in-Err-Disk.ensures.moments c.in-Err-Disk.ensures.count)
