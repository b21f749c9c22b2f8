-- `make`: the gate is closed, and opened once the header stands behind it.
use Rattle.std.proofs.Common.{◌≡◌, ℕ, ◌+◌, List, [], ◌∷◌, ◌++◌, length, drop, refl, ◌∙◌, ap, subst}
use Rattle.std.specs.Prelude.{IfSome}
use Rattle.go_disk.specs.Device.{Device}
use Rattle.go_blocks.specs.declared.layout.TheConstants.{CLOSED, HEADER_LENGTH}
use Rattle.go_blocks.specs.File.{IsVertexCount}
use Rattle.go_durable.specs.Attaching.{IsLeft}
use Rattle.go_durable.specs.Moments.{LeavesOnly}
use Rattle.go_durable.specs.Reading.{IsUnmadeOf, IsGated}
use Rattle.go_durable.specs.Standing.{IsQuiet}
use Rattle.go_durable.specs.Writing.{IsShutOrOpened}
use Rattle.go_durable.proofs.Moments.{joined, weaker}
use Rattle.go_durable.proofs.Headers.{header_inner, header_is_left, told_on}
use Rattle.go_durable.proofs.making.make.Given.{Over}
use Rattle.go_durable.proofs.making.make.Goals.{After-split_at, After-open_behind}
use Rattle.go_durable.proofs.making.make.Goals as goal

-- the moments of the header, after those of the gate
header_moments : {D : Type 0} (device : Device D) (v len end : ℕ) (old mid new : D) → IsVertexCount v →
    IfSome (device.contents old) (IsUnmadeOf len) → IsGated device old mid → end ≡ HEADER_LENGTH → LeavesOnly device old mid (IsLeft v (device.contents old)) →
    LeavesOnly device mid new (IsShutOrOpened (device.contents mid) end [] (header_inner v)) → LeavesOnly device old new (IsLeft v (device.contents old))
header_moments device v len end old mid new count unmade gated end_is first second =
    joined device old mid new (IsLeft v (device.contents old)) first
    (weaker device mid new (IsShutOrOpened (device.contents mid) end [] (header_inner v)) (IsLeft v (device.contents old))
    (λ image is. header_is_left v len (device.contents old) (device.contents mid) image count unmade gated.short
    (subst (λ (e : ℕ). IsShutOrOpened (device.contents mid) e [] (header_inner v) image) end_is is)) second)

-- what stands behind the gate
body_of_header : (g : Over) (c : After-split_at g) → c.split_at.result.1.now ≡ header_inner c.args.vertices ++ CLOSED ∷ []
body_of_header g c = c.split_at.ensures.back ∙ ap (drop 1) c.header-bytes.ensures.exact

-- the moments of the whole making
making : (g : Over) (c : After-open_behind g) → c.split_at.result.1.now ≡ header_inner c.args.vertices ++ CLOSED ∷ []
    → IsQuiet g.D.Disk.device c.args.disk.now →
    IfSome (g.D.Disk.device.contents c.args.disk.now) (IsUnmadeOf c.args.len)
    → LeavesOnly g.D.Disk.device c.args.disk.now c.open_behind.new.disk (IsLeft c.args.vertices (g.D.Disk.device.contents c.args.disk.now))
making g c body_is quiet unmade =
    let gated = c.in-Ok.ensures.done quiet unmade in
    header_moments g.D.Disk.device c.args.vertices c.args.len
    (0 + 1 + length c.split_at.result.1.now) c.args.disk.now c.close_gate.new.disk c.open_behind.new.disk
    c.requires unmade gated (ap (λ (b : List ℕ). 0 + 1 + length b) body_is) (c.close_gate.ensures.moments c.args.vertices quiet unmade)
    (c.open_behind.ensures.moments [] (header_inner c.args.vertices) gated.shut refl body_is)

pub returns-in_default-clause-moments : goal.returns-in_default-clause-moments
returns-in_default-clause-moments g c = λ quiet unmade. c.close_gate.ensures.moments c.args.vertices quiet unmade

pub returns-in_default-open_behind-clause-moments : goal.returns-in_default-open_behind-clause-moments
returns-in_default-open_behind-clause-moments g c =
    let at = goal.at.returns-in_default-open_behind-clause-moments g c in
    making g at.After-open_behind (body_of_header g at.After-split_at)

pub returns-clause-moments : goal.returns-clause-moments
returns-clause-moments g c =
    let at = goal.at.returns-clause-moments g c in
    making g at.After-open_behind (body_of_header g at.After-split_at)

pub returns-clause-done : goal.returns-clause-done
returns-clause-done g c = λ quiet unmade.
    let gated = c.in-Ok.ensures.done quiet unmade in
    let opened = c.in-Ok-open_behind.ensures.done [] (header_inner c.args.vertices) gated.shut refl
    (body_of_header g (goal.at.returns-clause-done g c).After-split_at) in
    record {
      shut = opened.shut;
      told =
          told_on (g.D.Disk.device.contents c.args.disk.now) (g.D.Disk.device.contents c.close_gate.new.disk)
          (g.D.Disk.device.contents c.open_behind.new.disk) _ _ gated.short opened.told;
    }
