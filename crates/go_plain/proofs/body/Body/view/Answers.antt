-- What `view` needs and leads to.
use Rattle.std.proofs.Common.{length, set, sym, subst, ◌∙◌}
use Rattle.go_api.specs.Calls.{IsViewed}
use Rattle.go_api.specs.declared.place.Place.TheVariants.{Free, View}
use Rattle.go_plain.specs.Plain.{PlainState, GoesOnBy, standing_of}
use Rattle.go_plain.specs.Seats.{seat_at}
use Rattle.go_plain.specs.declared.seat.Seat.{Seat}
use Rattle.go_plain.proofs.GoingLemmas.{by_seat}
use Rattle.go_plain.proofs.PlacesLemmas.{place_there, view_whole}
use Rattle.go_plain.proofs.AnsweredLemmas.{viewed}
use Rattle.go_plain.proofs.StandingLemmas.{still_sound}
use Rattle.go_plain.proofs.body.Body.view.Goals as goal

pub keep-requires-clause-place : goal.keep-requires-clause-place
keep-requires-clause-place g c = place_there (seat_at c.args.self.now.seats c.args.number).places c.args.place Free c.requires.free

pub keep-requires-clause-views : goal.keep-requires-clause-views
keep-requires-clause-views g c = λ n is. view_whole c.head-front.result n (length c.args.self.now.log) c.head-front.ensures.exact is

pub returns-clause-views : goal.returns-clause-views
returns-clause-views g c =
    let old = c.args.self.now in
    let sound = c.check.ensures.sound c.args.number c.requires.session in
    subst (λ (s : PlainState _). IsViewed c.args.place c.head-front.result (standing_of g.D.Disk.device old c.args.number)
    (standing_of g.D.Disk.device s c.args.number))
    (sym (c.mark.ensures ∙ c.keep.ensures.kept))
    (viewed g.D.Disk.device old c.args.number c.args.place c.head-front.result c.requires.session sound c.head-front.ensures.exact)

pub returns-clause-sound : goal.returns-clause-sound
returns-clause-sound g c = rw c.mark.ensures (still_sound g.D.Disk.device c.args.self.now c.keep.new.self c.args.number c.keep.ensures.stays c.requires.session)

pub returns-clause-became : goal.returns-clause-became
returns-clause-became g c =
    let old = c.args.self.now in
    let seat : Seat = record (seat_at old.seats c.args.number) {
      seen = length old.log;
      places = set (seat_at old.seats c.args.number).places c.args.place (View c.head-front.result);
    } in
    subst (λ (s : PlainState _). GoesOnBy g.D.Disk.device c.args.number old s) (sym (c.mark.ensures ∙ c.keep.ensures.kept))
    (by_seat g.D.Disk.device c.args.number old seat c.requires.session)
