-- `write_through`: what a crash may leave in the write, and in the sync after it.
use Rattle.std.proofs.Common.{◌≡◌, ℕ, List, length, sym, subst, ◌∙◌}
use Rattle.std.specs.Prelude.{Option, Some}
use Rattle.go_disk.specs.Disk.{Torn}
use Rattle.go_disk.proofs.TornLemmas.{torn_nothing}
use Rattle.go_durable.specs.Standing.{IsQuiet}
use Rattle.go_durable.specs.Writing.{IsTornOf}
use Rattle.go_durable.proofs.Asking.{there_counts_none}
use Rattle.go_durable.proofs.Moments.{none_newer, noted_newer, one_call, joined}
use Rattle.go_durable.proofs.through.write_through.Given.{Over}
use Rattle.go_durable.proofs.through.write_through.Goals.{After-write_at}
use Rattle.go_durable.proofs.through.write_through.Goals as goal

-- what was told was torn
torn_of : (contents : Option (List ℕ)) (at n : ℕ) (was image : List ℕ) → contents ≡ Some was → Torn at n was image → IsTornOf contents at n image
torn_of contents at n was image told torn = subst (λ (c : Option (List ℕ)). IsTornOf c at n image) (sym told) torn

-- each image after the write is what was told, torn
written : (g : Over) (c : After-write_at g) → IsQuiet g.D.Disk.device c.args.disk.now → (image : List ℕ) → g.D.Disk.device.images c.write_at.new.self image
    → IsTornOf (g.D.Disk.device.contents c.args.disk.now) c.args.at (length c.args.bytes.now) image
written g c quiet image is_image =
    let from = c.write_at.ensures.tears.images image is_image in
    torn_of (g.D.Disk.device.contents c.args.disk.now) c.args.at (length c.args.bytes.now) from.0 image (quiet.only from.0 from.1) from.2

pub returns-clause-moments : goal.returns-clause-moments
returns-clause-moments g c = λ quiet there.
    let at = goal.at.returns-clause-moments g c in
    let contents : Option (List ℕ) = g.D.Disk.device.contents c.args.disk.now in
    let Leaves : List ℕ → Type 0 = IsTornOf contents c.args.at (length c.args.bytes.now) in
    joined g.D.Disk.device c.args.disk.now c.write_at.new.self c.sync.new.self Leaves
    (one_call g.D.Disk.device g.met.D.Disk.rules c.args.disk.now c.write_at.new.self Leaves c.write_at.ensures.time
    (none_newer (g.D.Disk.device.syncs c.args.disk.now) (g.D.Disk.device.syncs c.write_at.new.self) c.write_at.ensures.tears.syncs)
    (c.write_at.ensures.blunders ∙ there_counts_none contents c.args.at (g.D.Disk.device.blunders c.args.disk.now) there)
    (λ image is. torn_of contents c.args.at (length c.args.bytes.now) image image (quiet.only image is)
    (torn_nothing c.args.at (length c.args.bytes.now) image))
    (written g at.After-write_at quiet))
    (one_call g.D.Disk.device g.met.D.Disk.rules c.write_at.new.self c.sync.new.self Leaves c.sync.ensures.time
    (noted_newer (g.D.Disk.device.contents c.sync.new.self) (g.D.Disk.device.clock c.sync.new.self) (g.D.Disk.device.syncs c.write_at.new.self)
    (g.D.Disk.device.syncs c.sync.new.self) c.in-Ok-sync.ensures.synced.syncs)
    c.sync.ensures.blunders (written g at.After-write_at quiet)
    (λ image is. written g at.After-write_at quiet image (c.in-Ok-sync.ensures.synced.images image is)))
