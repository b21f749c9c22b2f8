-- `open`: what was read, or made, and the moments from the sync on.
use Rattle.std.proofs.Common.{◌≡◌, length, refl, sym, ap, ◌∙◌, inr, arith}
use Rattle.std.specs.Prelude.{IfSome}
use Rattle.go_durable.specs.Attaching.{IsOpening, IsUntouched}
use Rattle.go_durable.specs.Reading.{IsLookedAt, IsUnmadeOf}
use Rattle.go_durable.proofs.Attached.{fault_answers, read_refused, refused_moments, refused_fault, refused_untouched, looked_settles, made_settles}
use Rattle.go_durable.proofs.Attached.{made_is_log, read_is_sound, read_is_log, unmade_shown, read_shown}
use Rattle.go_durable.proofs.opening.open.Given.{Over}
use Rattle.go_durable.proofs.opening.open.Goals.{After-read_whole, After-make}
use Rattle.go_durable.proofs.opening.open.Goals as goal

-- nothing is pending after the sync, so reading the disk whole is a look at it
looked : (g : Over) (c : After-read_whole g) → IsLookedAt g.D.Disk.device c.sync.new.self c.read_whole.new.disk
looked g c = c.read_whole.ensures.looked (record { stable = c.in-Ok.ensures.synced.base; only = c.in-Ok.ensures.synced.only })

-- the disk is as it was
untouched : (g : Over) (c : After-read_whole g) → IsUntouched g.D.Disk.device c.args.disk.now c.read_whole.new.disk
untouched g c = let look = looked g c in record { same = look.same ∙ c.in-Ok.ensures.synced.contents; quiet = look.quiet }

-- the moments up to then
opening : (g : Over) (c : After-read_whole g) → IsOpening g.D.Disk.device c.args.vertices c.args.disk.now c.read_whole.new.disk
opening g c = looked_settles g.D.Disk.device g.met.D.Disk.rules c.args.vertices c.args.disk.now c.sync.new.self c.read_whole.new.disk
    c.sync.ensures.time c.in-Ok.ensures.synced c.sync.ensures.blunders (looked g c)

-- what it tells where it is made: bytes that aren't made yet
unmade_so_long : (g : Over) (c : After-make g) → g.D.Disk.device.contents c.read_whole.new.disk ≡ g.D.Disk.device.contents c.sync.new.self
    → IfSome (g.D.Disk.device.contents c.read_whole.new.disk) (IsUnmadeOf c.len.result)
unmade_so_long g c same =
    unmade_shown (g.D.Disk.device.contents c.sync.new.self)
    (g.D.Disk.device.contents c.read_whole.new.disk) c.in-Ok-read_whole.bytes.items c.deref.result.now c.len.result same
    c.in-Ok-read_whole.ensures.answer.shown c.deref.ensures.value
    (c.if-unmade.ensures.0 refl) (c.len.ensures ∙ sym c.deref.ensures.len)

-- the moments up to the end of the making
making : (g : Over) (c : After-make g) → IsLookedAt g.D.Disk.device c.sync.new.self c.read_whole.new.disk →
    IsOpening g.D.Disk.device c.args.vertices c.args.disk.now c.read_whole.new.disk → IsOpening g.D.Disk.device c.args.vertices c.args.disk.now c.make.new.disk
making g c look so_far =
    made_settles g.D.Disk.device c.args.vertices c.args.disk.now c.read_whole.new.disk c.make.new.disk (look.same ∙ c.in-Ok.ensures.synced.contents) so_far
    (c.make.ensures.moments look.quiet (unmade_so_long g c look.same))

pub returns-in_default-clause-answer : goal.returns-in_default-clause-answer
returns-in_default-clause-answer g c = fault_answers c.args.vertices c.args.room (g.D.Disk.device.contents c.args.disk.now) c.sync.new.self

pub returns-in-Err-clause-answer : goal.returns-in-Err-clause-answer
returns-in-Err-clause-answer g c =
    read_refused g.D.Disk.device c.args.vertices c.args.room
    (g.D.Disk.device.contents c.args.disk.now) c.sync.new.self c.read_whole.new.disk c.in-Err.refused c.in-Ok.ensures.synced.contents c.in-Err.ensures.answer

pub returns-in-Err-clause-moments : goal.returns-in-Err-clause-moments
returns-in-Err-clause-moments g c =
    refused_moments g.D.Disk.device c.args.vertices c.args.disk.now c.read_whole.new.disk c.in-Err.refused
    (opening g (goal.at.returns-in-Err-clause-moments g c).After-read_whole)

pub returns-in_default-make-clause-moments : goal.returns-in_default-make-clause-moments
returns-in_default-make-clause-moments g c =
    let at = goal.at.returns-in_default-make-clause-moments g c in
    inr (making g at.After-make (looked g at.After-read_whole) (opening g at.After-read_whole))

pub returns-then-unmade-clause-moments : goal.returns-then-unmade-clause-moments
returns-then-unmade-clause-moments g c =
    let at = goal.at.returns-then-unmade-clause-moments g c in
    making g at.After-make (looked g at.After-read_whole) (opening g at.After-read_whole)

pub returns-then-unmade-clause-log : goal.returns-then-unmade-clause-log
returns-then-unmade-clause-log g c =
    let at = goal.at.returns-then-unmade-clause-log g c in
    let look = looked g at.After-read_whole in
    made_is_log g.D.Disk.device c.args.vertices c.args.disk.now c.read_whole.new.disk c.make.new.disk c.contents_of_none.result c.requires
    c.contents_of_none.ensures.edges c.contents_of_none.ensures.places c.contents_of_none.ensures.gate (look.same
    ∙ c.in-Ok.ensures.synced.contents) (c.in-Ok-make.ensures.done look.quiet (unmade_so_long g at.After-make look.same))

pub returns-in-Ok-contents_of-clause-log : goal.returns-in-Ok-contents_of-clause-log
returns-in-Ok-contents_of-clause-log g c =
    let still = untouched g (goal.at.returns-in-Ok-contents_of-clause-log g c).After-read_whole in
    read_is_log g.D.Disk.device c.args.vertices c.args.room c.deref-2.result.now c.args.disk.now c.read_whole.new.disk c.in-Ok-contents_of.contents
    c.in-Ok-contents_of.ensures.answer
    (read_shown (g.D.Disk.device.contents c.sync.new.self)
    (g.D.Disk.device.contents c.args.disk.now) c.in-Ok-read_whole.bytes.items c.deref-2.result.now c.in-Ok.ensures.synced.contents
    c.in-Ok-read_whole.ensures.answer.shown c.deref-2.ensures.value)
    still.same still.quiet

pub returns-in-Ok-contents_of-clause-sound : goal.returns-in-Ok-contents_of-clause-sound
returns-in-Ok-contents_of-clause-sound g c =
    read_is_sound c.args.vertices c.args.room c.deref-2.result.now c.in-Ok-contents_of.contents c.in-Ok-contents_of.ensures.answer
    (omega (arith, ap length c.deref-2.ensures.value, c.in-Ok-read_whole.ensures.answer.fits))

pub returns-in-Ok-contents_of-clause-moments : goal.returns-in-Ok-contents_of-clause-moments
returns-in-Ok-contents_of-clause-moments g c = opening g (goal.at.returns-in-Ok-contents_of-clause-moments g c).After-read_whole

pub returns-clause-moments : goal.returns-clause-moments
returns-clause-moments g c =
    refused_moments g.D.Disk.device c.args.vertices c.args.disk.now c.read_whole.new.disk c.in-Err-contents_of.refused
    (opening g (goal.at.returns-clause-moments g c).After-read_whole)

pub returns-clause-fault : goal.returns-clause-fault
returns-clause-fault g c = refused_fault g.D.Disk.device c.args.disk.now c.read_whole.new.disk c.in-Err-contents_of.refused c.in-Err-contents_of.ensures.cause

pub returns-in-Err-clause-untouched : goal.returns-in-Err-clause-untouched
returns-in-Err-clause-untouched g c =
    refused_untouched g.D.Disk.device c.args.disk.now c.read_whole.new.disk c.in-Err.refused
    (untouched g (goal.at.returns-in-Err-clause-untouched g c).After-read_whole)

pub returns-clause-untouched : goal.returns-clause-untouched
returns-clause-untouched g c =
    refused_untouched g.D.Disk.device c.args.disk.now c.read_whole.new.disk c.in-Err-contents_of.refused
    (untouched g (goal.at.returns-clause-untouched g c).After-read_whole)
