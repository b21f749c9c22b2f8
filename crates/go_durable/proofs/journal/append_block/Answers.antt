-- What `append_block` leads to.
use Rattle.std.proofs.Common.{refl}
use Rattle.go_durable.proofs.Journals.{keeps_longer, keeps_fault, one_block}
use Rattle.go_durable.proofs.journal.append_block.Goals as goal

pub returns-in-Ok : goal.returns-in-Ok
returns-in-Ok g c = (
  keeps_longer g.D.Disk.device c.args.block.now c.args.log c.in-Ok.longer c.in-Ok.ensures.answer c.in-Ok.ensures.moments c.in-Ok.ensures.count,
  one_block g.D.Disk.device c.args.block.now c.args.log c.in-Ok.longer c.in-Ok.ensures.answer,
)

pub returns-in-Err-Disk : goal.returns-in-Err-Disk
returns-in-Err-Disk g c =
    rw c.front-front.ensures (
      keeps_fault g.D.Disk.device c.args.block.now c.args.log c.in-Err-Disk.field-0 c.in-Err-Disk.disk c.in-Err-Disk.field-0-is
          c.in-Err-Disk.ensures.answer c.in-Err-Disk.ensures.moments c.in-Err-Disk.ensures.count,
      refl,
    )
