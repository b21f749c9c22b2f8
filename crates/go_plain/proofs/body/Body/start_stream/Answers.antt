-- What `start_stream` needs and leads to.
use Rattle.std.proofs.Common.{length, set, sym, subst, ◌∙◌}
use Rattle.go_api.specs.Calls.{IsStarted}
use Rattle.go_api.specs.declared.place.Place.TheVariants.{Free, Stream}
use Rattle.go_plain.specs.Plain.{PlainState, GoesOnBy, standing_of}
use Rattle.go_plain.specs.Seats.{seat_at}
use Rattle.go_plain.specs.declared.seat.Seat.{Seat}
use Rattle.go_plain.proofs.GoingLemmas.{by_seat}
use Rattle.go_plain.proofs.PlacesLemmas.{place_there, stream_is_none}
use Rattle.go_plain.proofs.AnsweredLemmas.{started}
use Rattle.go_plain.proofs.StandingLemmas.{still_sound}
use Rattle.go_plain.proofs.body.Body.start_stream.Goals as goal

pub keep-requires-clause-place : goal.keep-requires-clause-place
keep-requires-clause-place g c = place_there (seat_at c.args.self.now.seats c.args.number).places c.args.place Free c.requires.free

pub keep-requires-clause-views : goal.keep-requires-clause-views
keep-requires-clause-views g c = λ n is. stream_is_none c.head-cursor.result n is

pub returns-clause-starts : goal.returns-clause-starts
returns-clause-starts g c =
    let old = c.args.self.now in
    let sound = c.check.ensures.sound c.args.number c.requires.session in
    subst (λ (s : PlainState _). IsStarted c.args.place c.head-cursor.result (standing_of g.D.Disk.device old c.args.number)
    (standing_of g.D.Disk.device s c.args.number))
    (sym (c.keep.ensures.kept))
    (started g.D.Disk.device old c.args.number c.args.place c.head-cursor.result c.requires.session sound c.head-cursor.ensures.exact)

pub returns-clause-sound : goal.returns-clause-sound
returns-clause-sound g c =
    still_sound g.D.Disk.device c.args.self.now c.keep.new.self c.args.number c.keep.ensures.stays c.requires.session

pub returns-clause-became : goal.returns-clause-became
returns-clause-became g c =
    let old = c.args.self.now in
    let seat : Seat = record (seat_at old.seats c.args.number) {
      seen = length old.log;
      places = set (seat_at old.seats c.args.number).places c.args.place (Stream c.head-cursor.result);
    } in
    subst (λ (s : PlainState _). GoesOnBy g.D.Disk.device c.args.number old s) (sym (c.keep.ensures.kept))
    (by_seat g.D.Disk.device c.args.number old seat c.requires.session)
