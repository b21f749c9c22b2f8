-- What `put` leads to.
use Rattle.std.proofs.Common.{length, sym, subst, ap, Err, ◌∙◌, arith}
use Rattle.go_api.specs.Calls.{IsPut}
use Rattle.go_plain.specs.GoingOn.{store_onwards}
use Rattle.go_plain.specs.Plain.{PlainState, GoesOnBy, standing_of}
use Rattle.go_plain.proofs.GoingLemmas.{by_moves, by_push}
use Rattle.go_plain.proofs.PutLemmas.{put_after}
use Rattle.go_plain.proofs.StandingLemmas.{was_put, moves_see, put_stops, sees_within, still_session, still_sound, stays_on}
use Rattle.go_plain.proofs.body.Body.put.Goals as goal

pub returns-clause-puts : goal.returns-clause-puts
returns-clause-puts g c =
    let old = c.args.self.now in
    let mid = c.make_room.new.self in
    let number = c.args.number in
    let stays = c.make_room.ensures.stays in
    let session = still_session g.D.Disk.device old mid number stays.sessions c.requires.session in
    let within = sees_within g.D.Disk.device mid number (stays.is_store.sound number session) in
    let moves = moves_see g.D.Disk.device old mid number c.make_room.ensures.made.only in
    let put = was_put g.D.Disk.device mid number c.args.edge session (omega (arith, moves.quota, c.requires.may.quota)) within stays.is_store.owners in
    rw c.push.ensures.position (put_after (standing_of g.D.Disk.device old number) (standing_of g.D.Disk.device mid number)
    (standing_of g.D.Disk.device c.push.new.self number) c.args.edge
    (length mid.log) moves
    (subst (λ (s : PlainState _). IsPut c.args.edge (length mid.log) (standing_of g.D.Disk.device mid number) (standing_of g.D.Disk.device s number))
    (sym c.push.ensures.put) put))

pub returns-clause-sound : goal.returns-clause-sound
returns-clause-sound g c =
    let mid = c.make_room.new.self in
    let session = still_session g.D.Disk.device c.args.self.now mid c.args.number c.make_room.ensures.stays.sessions c.requires.session in
    still_sound g.D.Disk.device mid c.push.new.self c.args.number c.push.ensures.stays session

pub returns-clause-stays : goal.returns-clause-stays
returns-clause-stays g c = stays_on g.D.Disk.device c.args.self.now c.make_room.new.self c.push.new.self c.make_room.ensures.stays c.push.ensures.stays

pub returns-clause-became : goal.returns-clause-became
returns-clause-became g c =
    let old = c.args.self.now in
    let mid = c.make_room.new.self in
    let session = still_session g.D.Disk.device old mid c.args.number c.make_room.ensures.stays.sessions c.requires.session in
    let moved = by_moves g.D.Disk.device c.args.number old mid c.make_room.ensures.made.only c.make_room.ensures.stays.is_store.risen in
    store_onwards g.D.Disk.device c.args.number old mid c.push.new.self moved
    (subst (λ (s : PlainState _). GoesOnBy g.D.Disk.device c.args.number mid s) (sym c.push.ensures.put)
    (by_push g.D.Disk.device c.args.number mid c.args.edge session))

pub returns-in-Err-clause-puts : goal.returns-in-Err-clause-puts
returns-in-Err-clause-puts g c =
    put_stops g.D.Disk.device c.args.self.now c.make_room.new.self c.args.number c.in-Err.why c.in-Err.ensures.made.only
    (λ is. c.in-Err.ensures.made.met (ap (λ w. Err w) is))

pub returns-in-Err-clause-sound : goal.returns-in-Err-clause-sound
returns-in-Err-clause-sound g c = still_sound g.D.Disk.device c.args.self.now c.make_room.new.self c.args.number c.in-Err.ensures.stays c.requires.session

pub returns-in-Err-clause-became : goal.returns-in-Err-clause-became
returns-in-Err-clause-became g c =
    by_moves g.D.Disk.device c.args.number c.args.self.now c.make_room.new.self c.in-Err.ensures.made.only c.in-Err.ensures.stays.is_store.risen
