-- `open_behind`: two writes that are each made stable, and what a crash may leave at each moment of them.
use Rattle.std.proofs.Common.{◌≡◌, ℕ, ◌+◌, List, [], ◌∷◌, ◌++◌, length, sym, subst}
use Rattle.std.specs.Prelude.{Option}
use Rattle.go_disk.specs.Device.{Device}
use Rattle.go_disk.specs.Disk.{Holds, StaysTold}
use Rattle.go_blocks.specs.declared.layout.TheConstants.{CLOSED, OPEN}
use Rattle.go_durable.specs.Moments.{LeavesOnly}
use Rattle.go_durable.specs.Standing.{IsShut}
use Rattle.go_durable.specs.Writing.{IsTornOf, IsWritten, IsShutOrOpened, StaysShut}
use Rattle.go_durable.proofs.Moments.{joined, weaker}
use Rattle.go_durable.proofs.Gates.{torn_body, IsBehind, body_behind, holds_closed, torn_gate, gate_opened}
use Rattle.go_durable.proofs.Asking.{behind_is_there, gate_is_there}
use Rattle.go_durable.proofs.gate.open_behind.Given.{Over}
use Rattle.go_durable.proofs.gate.open_behind.Goals.{After-write_through-2}
use Rattle.go_durable.proofs.gate.open_behind.Goals as goal

-- the moments of the first write
first : {D : Type 0} (device : Device D) (front inner body : List ℕ) (gate : ℕ) (old mid : D) →
    IsShut device front old → gate ≡ length front → LeavesOnly device old mid (IsTornOf (device.contents old) (gate + 1) (length body)) →
    LeavesOnly device old mid (IsShutOrOpened (device.contents old) (gate + 1 + length body) front inner)
first device front inner body gate old mid shut gate_is leaves =
    weaker device old mid (IsTornOf (device.contents old) (gate + 1) (length body)) (IsShutOrOpened (device.contents old) (gate + 1 + length body) front inner)
    (λ image torn. subst (λ (g : ℕ). IsTornOf (device.contents old) (g + 1) (length body) image
    → IsShutOrOpened (device.contents old) (g + 1 + length body) front inner image) (sym gate_is)
    (torn_body front inner (length body) (device.contents old) image shut.closed) torn)
    leaves

-- what the first write leaves
left : {D : Type 0} (device : Device D) (front inner body : List ℕ) (gate : ℕ) (old mid : D) →
    IsShut device front old → gate ≡ length front → body ≡ inner ++ CLOSED ∷ [] → IsWritten device (gate + 1) body old mid →
    StaysTold (IsBehind front inner (gate + 1 + length body)) (device.contents old) (device.contents mid)
left device front inner body gate old mid shut gate_is body_is written =
    subst (λ (b : List ℕ). StaysTold (Holds (gate + 1) b) (device.contents old) (device.contents mid)
    → StaysTold (IsBehind front inner (gate + 1 + length b)) (device.contents old) (device.contents mid)) (sym body_is)
    (subst (λ (g : ℕ). StaysTold (Holds (g + 1) (inner ++ CLOSED ∷ [])) (device.contents old) (device.contents mid)
    → StaysTold (IsBehind front inner (g + 1 + length (inner ++ CLOSED ∷ []))) (device.contents old) (device.contents mid)) (sym gate_is)
    (body_behind front inner (device.contents old) (device.contents mid) shut.closed))
    written.holds

-- the moments of the second
second : {D : Type 0} (device : Device D) (front inner : List ℕ) (end gate : ℕ) (old mid new : D) →
    gate ≡ length front → StaysTold (IsBehind front inner end) (device.contents old) (device.contents mid)
    → LeavesOnly device mid new (IsTornOf (device.contents mid) gate 1) →
    LeavesOnly device mid new (IsShutOrOpened (device.contents old) end front inner)
second device front inner end gate old mid new gate_is tells leaves =
    weaker device mid new (IsTornOf (device.contents mid) gate 1) (IsShutOrOpened (device.contents old) end front inner)
    (λ image torn. torn_gate front inner end (device.contents old) (device.contents mid) image tells
    (subst (λ (g : ℕ). IsTornOf (device.contents mid) g 1 image) gate_is torn))
    leaves

pub returns-in_default-clause-moments : goal.returns-in_default-clause-moments
returns-in_default-clause-moments g c = λ front inner shut gate_is body_is.
    first g.D.Disk.device front inner c.args.body.now c.args.gate c.args.disk.now c.write_through.new.disk shut gate_is
    (c.write_through.ensures.moments shut.quiet (behind_is_there front (g.D.Disk.device.contents c.args.disk.now) c.args.gate gate_is shut.closed))

-- the moments of both
both : (g : Over) (c : After-write_through-2 g) (front inner : List ℕ) → IsShut g.D.Disk.device front c.args.disk.now → c.args.gate ≡ length front
    → c.args.body.now ≡ inner ++ CLOSED ∷ [] →
    LeavesOnly g.D.Disk.device c.args.disk.now c.write_through-2.new.disk
    (IsShutOrOpened (g.D.Disk.device.contents c.args.disk.now) (c.args.gate + 1 + length c.args.body.now) front inner)
both g c front inner shut gate_is body_is =
    let written : IsWritten g.D.Disk.device (c.args.gate + 1) c.args.body.now c.args.disk.now c.write_through.new.disk = c.in-Ok.ensures.done shut.quiet in
    joined g.D.Disk.device c.args.disk.now c.write_through.new.disk c.write_through-2.new.disk
    (IsShutOrOpened (g.D.Disk.device.contents c.args.disk.now) (c.args.gate + 1 + length c.args.body.now) front inner)
    (first g.D.Disk.device front inner c.args.body.now c.args.gate c.args.disk.now c.write_through.new.disk shut gate_is
    (c.write_through.ensures.moments shut.quiet (behind_is_there front (g.D.Disk.device.contents c.args.disk.now) c.args.gate gate_is shut.closed)))
    (second g.D.Disk.device front inner
    (c.args.gate + 1 + length c.args.body.now) c.args.gate c.args.disk.now c.write_through.new.disk c.write_through-2.new.disk gate_is
    (left g.D.Disk.device front inner c.args.body.now c.args.gate c.args.disk.now c.write_through.new.disk shut gate_is body_is written)
    (c.write_through-2.ensures.moments written.quiet
    (gate_is_there front inner (c.args.gate + 1 + length c.args.body.now) c.args.gate (g.D.Disk.device.contents c.args.disk.now)
    (g.D.Disk.device.contents c.write_through.new.disk) gate_is
    (left g.D.Disk.device front inner c.args.body.now c.args.gate c.args.disk.now c.write_through.new.disk shut gate_is body_is written))))

pub returns-in_default-write_through-clause-moments : goal.returns-in_default-write_through-clause-moments
returns-in_default-write_through-clause-moments g c = both g (goal.at.returns-in_default-write_through-clause-moments g c).After-write_through-2

pub returns-clause-moments : goal.returns-clause-moments
returns-clause-moments g c = both g (goal.at.returns-clause-moments g c).After-write_through-2

pub returns-clause-done : goal.returns-clause-done
returns-clause-done g c = λ front inner shut gate_is body_is.
    let written : IsWritten g.D.Disk.device (c.args.gate + 1) c.args.body.now c.args.disk.now c.write_through.new.disk = c.in-Ok.ensures.done shut.quiet in
    let again : IsWritten g.D.Disk.device c.args.gate (OPEN ∷ []) c.write_through.new.disk c.write_through-2.new.disk =
    c.in-Ok-write_through.ensures.done written.quiet in
    let ends = gate_opened front inner (c.args.gate + 1 + length c.args.body.now) (g.D.Disk.device.contents c.args.disk.now)
    (g.D.Disk.device.contents c.write_through.new.disk) (g.D.Disk.device.contents c.write_through-2.new.disk)
    (left g.D.Disk.device front inner c.args.body.now c.args.gate c.args.disk.now c.write_through.new.disk shut gate_is body_is written)
    (subst (λ (p : ℕ). StaysTold (Holds p (OPEN ∷ [])) (g.D.Disk.device.contents c.write_through.new.disk)
    (g.D.Disk.device.contents c.write_through-2.new.disk)) gate_is again.holds) in
    record { shut = record { quiet = again.quiet; closed = ends.0 }; told = ends.1 }

pub returns-in_default-write_through-clause-failed : goal.returns-in_default-write_through-clause-failed
returns-in_default-write_through-clause-failed g c = λ front shut gate_is.
    let written : IsWritten g.D.Disk.device (c.args.gate + 1) c.args.body.now c.args.disk.now c.write_through.new.disk = c.in-Ok.ensures.done shut.quiet in
    let stays : g.D.Disk.device.base c.write_through-2.new.disk ≡ g.D.Disk.device.contents c.write_through.new.disk =
    c.in_default-write_through.ensures.failed written.quiet in
    subst (λ (b : Option (List ℕ)). StaysShut (g.D.Disk.device.contents c.args.disk.now) b front) (sym stays)
    (holds_closed front c.args.body.now (g.D.Disk.device.contents c.args.disk.now) (g.D.Disk.device.contents c.write_through.new.disk) shut.closed
    (subst (λ (p : ℕ). StaysTold (Holds (p + 1) c.args.body.now) (g.D.Disk.device.contents c.args.disk.now)
    (g.D.Disk.device.contents c.write_through.new.disk)) gate_is written.holds))
