-- What `until` leads to.
use Rattle.std.proofs.Common.{length, sym, subst, ◌∙◌, arith}
use Rattle.go_api.specs.Calls.{HasReached, HasNotReached}
use Rattle.go_plain.specs.Plain.{PlainState, standing_of}
use Rattle.go_plain.proofs.AnsweredLemmas.{reached, not_reached}
use Rattle.go_plain.proofs.StandingLemmas.{still_sound}
use Rattle.go_plain.proofs.body.Body.until.Goals as goal

pub returns-then-front-seen-clause-waits : goal.returns-then-front-seen-clause-waits
returns-then-front-seen-clause-waits g c =
    let old = c.args.self.now in
    subst (λ (s : PlainState _). HasReached c.args.front c.args.front (standing_of g.D.Disk.device old c.args.number)
    (standing_of g.D.Disk.device s c.args.number))
    (sym c.look-seen.ensures.seen) (reached g.D.Disk.device old c.args.number c.args.front c.requires.session
    (c.check.ensures.sound c.args.number c.requires.session)
    (omega (arith, c.if-front-seen.true, c.look-seen.ensures.head)))

pub returns-then-front-seen-clause-sound : goal.returns-then-front-seen-clause-sound
returns-then-front-seen-clause-sound g c =
    still_sound g.D.Disk.device c.args.self.now c.look-seen.new.self c.args.number c.look-seen.ensures.stays c.requires.session

pub returns-else-front-seen-clause-waits : goal.returns-else-front-seen-clause-waits
returns-else-front-seen-clause-waits g c =
    let old = c.args.self.now in
    subst (λ (s : PlainState _). HasNotReached c.args.front c.look-seen.result (standing_of g.D.Disk.device old c.args.number)
    (standing_of g.D.Disk.device s c.args.number))
    (sym c.look-seen.ensures.seen) (not_reached g.D.Disk.device old c.args.number c.args.front c.look-seen.result c.requires.session
    (c.check.ensures.sound c.args.number c.requires.session) c.look-seen.ensures.head (omega (arith, c.if-front-seen.false)))

pub returns-else-front-seen-clause-sound : goal.returns-else-front-seen-clause-sound
returns-else-front-seen-clause-sound g c =
    still_sound g.D.Disk.device c.args.self.now c.look-seen.new.self c.args.number c.look-seen.ensures.stays c.requires.session
