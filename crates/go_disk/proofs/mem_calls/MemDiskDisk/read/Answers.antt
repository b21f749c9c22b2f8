-- A read that fails: it is listed, or its range isn't there.
use Rattle.std.proofs.Common.{inr, refl, length, rules, arith}
use Rattle.go_disk.specs.MemDisk.{FailsRead}
use Rattle.go_disk.proofs.mem_calls.MemDiskDisk.read.Goals.{then-is_listed-via-then-is_listed, then-is_listed-via-else-is_listed+then-not-is_there}
use Rattle.go_disk.proofs.mem_calls.MemDiskDisk.read.Goals as goal

pub returns-then-is_listed-clause-failed : goal.returns-then-is_listed-clause-failed
returns-then-is_listed-clause-failed c =
    let fails : FailsRead c.args.self.now c.args.at (length c.args.out.now) = elim c.then-is_listed.branch as (λ _.
    FailsRead c.args.self.now c.args.at (length c.args.out.now)) [
      | then-is_listed-via-then-is_listed w ↦ search rules
      | then-is_listed-via-else-is_listed+then-not-is_there w ↦ inr (grind arith)
    ] in
    (λ _. fails, λ _. refl)
