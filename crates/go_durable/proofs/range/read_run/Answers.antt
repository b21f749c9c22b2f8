-- `read_run`: the disk is only looked at, and what it shows is read as what it tells of.
use Rattle.std.proofs.Common.{◌≡◌, ℕ, ◌+◌, length, ap, ◌∙◌, arith}
use Rattle.go_disk.specs.Disk.{blundered}
use Rattle.go_durable.specs.Moments.{LeavesOnly}
use Rattle.go_durable.specs.Runs.{place_of_word}
use Rattle.go_durable.specs.Writing.{IsThere}
use Rattle.go_durable.proofs.Asking.{there_counts_none}
use Rattle.go_durable.proofs.Moments.{none_newer, one_call}
use Rattle.go_durable.proofs.Runs.{HasBounds, run_bounds}
use Rattle.go_durable.proofs.range.read_run.Given.{Over}
use Rattle.go_durable.proofs.range.read_run.Goals.{After-read}
use Rattle.go_durable.proofs.range.read_run.Goals as goal

pub length-requires-clause-order : goal.length-requires-clause-order
length-requires-clause-order g c = (run_bounds c.args.places.now c.args.run c.requires.run).order

pub length-requires-clause-few_blocks : goal.length-requires-clause-few_blocks
length-requires-clause-few_blocks g c = omega (arith, (run_bounds c.args.places.now c.args.run c.requires.run).blocks)

pub length-requires-clause-few_entries : goal.length-requires-clause-few_entries
length-requires-clause-few_entries g c = omega (arith, (run_bounds c.args.places.now c.args.run c.requires.run).entries)

-- what was asked for is there
moments : (g : Over) (c : After-read g) → IsThere (g.D.Disk.device.contents c.args.disk.now) (place_of_word c.args.run.last c.args.run.upto)
    → LeavesOnly g.D.Disk.device c.args.disk.now c.read.new.self (g.D.Disk.device.images c.args.disk.now)
moments g c there =
    let device = g.D.Disk.device in
    let contents = device.contents c.args.disk.now in
    let blunders = device.blunders c.args.disk.now in
    let bounds : HasBounds c.args.places.now c.args.run = run_bounds c.args.places.now c.args.run c.requires.run in
    let end : c.word_at.result + length c.split_at_mut-taken.result.0.now ≡ place_of_word c.args.run.last c.args.run.upto =
    omega (arith, c.word_at.ensures, c.split_at_mut-taken.ensures.front_len, c.length.ensures, bounds.order, c.requires.run.some) in
    let looks = c.read.ensures.looks in
    one_call device g.met.D.Disk.rules c.args.disk.now c.read.new.self (device.images c.args.disk.now) c.read.ensures.time
    (none_newer (device.syncs c.args.disk.now) (device.syncs c.read.new.self) looks.syncs)
    (c.read.ensures.blunders ∙ ap (λ (k : ℕ). blundered contents k blunders) end
    ∙ there_counts_none contents (place_of_word c.args.run.last c.args.run.upto) blunders there)
    (λ image is. is) (λ image is. looks.images image is)

pub returns-in_default-clause-moments : goal.returns-in_default-clause-moments
returns-in_default-clause-moments g c = λ there. moments g (goal.at.returns-in_default-clause-moments g c).After-read there

pub returns-clause-moments : goal.returns-clause-moments
returns-clause-moments g c = λ there. moments g (goal.at.returns-clause-moments g c).After-read there
