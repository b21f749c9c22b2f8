-- What `sync` leads to.
use Rattle.std.proofs.Common.{length, sym, subst, ap, Err, ◌∙◌}
use Rattle.go_api.specs.Calls.{IsSynced}
use Rattle.go_plain.specs.GoingOn.{store_onwards}
use Rattle.go_plain.specs.Plain.{PlainState, GoesOnBy, standing_of}
use Rattle.go_plain.specs.Seats.{seat_at}
use Rattle.go_plain.proofs.GoingLemmas.{by_moves, by_seat}
use Rattle.go_plain.proofs.AnsweredLemmas.{synced}
use Rattle.go_plain.proofs.StandingLemmas.{moves_stop, still_session, still_sound}
use Rattle.go_plain.proofs.body.Body.sync.Goals as goal

pub returns-in-Err-clause-syncs : goal.returns-in-Err-clause-syncs
returns-in-Err-clause-syncs g c =
    moves_stop g.D.Disk.device c.args.self.now c.move_out.new.self c.args.number c.in-Err.why c.in-Err.ensures.moved.only
    (λ is. c.in-Err.ensures.moved.met (ap (λ w. Err w) is))

pub returns-in-Err-clause-sound : goal.returns-in-Err-clause-sound
returns-in-Err-clause-sound g c = still_sound g.D.Disk.device c.args.self.now c.move_out.new.self c.args.number c.in-Err.ensures.stays c.requires.session

pub returns-in-Err-clause-became : goal.returns-in-Err-clause-became
returns-in-Err-clause-became g c =
    by_moves g.D.Disk.device c.args.number c.args.self.now c.move_out.new.self c.in-Err.ensures.moved.only c.in-Err.ensures.stays.is_store.risen

pub returns-clause-syncs : goal.returns-clause-syncs
returns-clause-syncs g c =
    let old = c.args.self.now in
    let mid = c.move_out.new.self in
    let session = still_session g.D.Disk.device old mid c.args.number c.move_out.ensures.stays.sessions c.requires.session in
    subst (λ (s : PlainState _). IsSynced c.look.result (standing_of g.D.Disk.device old c.args.number) (standing_of g.D.Disk.device s c.args.number))
    (sym c.look.ensures.seen)
    (synced g.D.Disk.device old mid c.args.number c.look.result c.move_out.ensures.moved.only c.in_default.ensures.moved.durable session
    (c.move_out.ensures.stays.is_store.sound c.args.number session) c.look.ensures.head)

pub returns-clause-sound : goal.returns-clause-sound
returns-clause-sound g c =
    let mid = c.move_out.new.self in
    let session = still_session g.D.Disk.device c.args.self.now mid c.args.number c.move_out.ensures.stays.sessions c.requires.session in
    still_sound g.D.Disk.device mid c.look.new.self c.args.number c.look.ensures.stays session

pub returns-clause-became : goal.returns-clause-became
returns-clause-became g c =
    let old = c.args.self.now in
    let mid = c.move_out.new.self in
    let session = still_session g.D.Disk.device old mid c.args.number c.move_out.ensures.stays.sessions c.requires.session in
    let moved = by_moves g.D.Disk.device c.args.number old mid c.move_out.ensures.moved.only c.move_out.ensures.stays.is_store.risen in
    let seen = by_seat g.D.Disk.device c.args.number mid (record (seat_at mid.seats c.args.number) { seen = length mid.log }) session in
    store_onwards g.D.Disk.device c.args.number old mid c.look.new.self moved
    (subst (λ (s : PlainState _). GoesOnBy g.D.Disk.device c.args.number mid s) (sym c.look.ensures.seen) seen)
