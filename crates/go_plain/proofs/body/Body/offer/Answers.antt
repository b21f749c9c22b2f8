-- What `offer` leads to.
use Rattle.std.proofs.Common.{◌≡◌, ◌+◌, length, sym, subst, ap, ◌∙◌, arith}
use Rattle.go_api.specs.Calls.{IsPut, IsBusy}
use Rattle.go_api.specs.Standing.{IsSound}
use Rattle.go_plain.specs.Plain.{PlainState, GoesOnBy, HasSession, standing_of}
use Rattle.go_plain.proofs.GoingLemmas.{by_push}
use Rattle.go_plain.proofs.AnsweredLemmas.{busy}
use Rattle.go_plain.proofs.StandingLemmas.{was_put, sees_within, still_sound}
use Rattle.go_plain.proofs.body.Body.offer.Goals as goal

pub returns-then-is_full-clause-offers : goal.returns-then-is_full-clause-offers
returns-then-is_full-clause-offers g c =
    let session = subst (λ (s : PlainState _). HasSession s c.args.number) (sym c.self.view_is) c.requires.session in
    let whole = c.head.ensures.exact ∙ ap (λ (s : PlainState _). length s.log) (sym c.self.view_is) in
    subst (λ (s : PlainState _). IsBusy c.head.result c.self.inside.moved (standing_of g.D.Disk.device s c.args.number)
    (standing_of g.D.Disk.device s c.args.number)) c.self.view_is
    (busy g.D.Disk.device _ c.self.inside.ring c.self.inside.shards.items c.args.number c.head.result c.self.invariant.1.arranged session
    (sym c.is_full.ensures.exact ∙ c.if-is_full.true) whole)

pub returns-then-is_full-clause-sound : goal.returns-then-is_full-clause-sound
returns-then-is_full-clause-sound g c = c.check.ensures.sound c.args.number c.requires.session

pub returns-clause-offers : goal.returns-clause-offers
returns-clause-offers g c =
    let old = c.args.self.now in
    let number = c.args.number in
    let within = sees_within g.D.Disk.device old number (c.check.ensures.sound number c.requires.session) in
    let put = was_put g.D.Disk.device old number c.args.edge c.requires.session c.requires.may.quota within c.check.ensures.owners in
    rw c.push.ensures.position (subst (λ (s : PlainState _). IsPut c.args.edge (length old.log) (standing_of g.D.Disk.device old number)
    (standing_of g.D.Disk.device s number))
    (sym c.push.ensures.put) put)

pub returns-clause-sound : goal.returns-clause-sound
returns-clause-sound g c = still_sound g.D.Disk.device c.args.self.now c.push.new.self c.args.number c.push.ensures.stays c.requires.session

pub returns-clause-became : goal.returns-clause-became
returns-clause-became g c =
    subst (λ (s : PlainState _). GoesOnBy g.D.Disk.device c.args.number c.args.self.now s) (sym c.push.ensures.put)
    (by_push g.D.Disk.device c.args.number c.args.self.now c.args.edge c.requires.session)
