-- What `free` needs and leads to.
use Rattle.std.proofs.Common.{◌<◌, length, set, sym, ap, subst, ◌∙◌}
use Rattle.go_api.specs.Calls.{IsPlacedAt}
use Rattle.go_api.specs.declared.place.Place.TheVariants.{Free}
use Rattle.go_plain.specs.Plain.{PlainState, MaySit, standing_of}
use Rattle.go_plain.specs.Seats.{seat_at, seats_with}
use Rattle.go_plain.specs.declared.seat.Seat.{Seat}
use Rattle.go_plain.proofs.PlacesLemmas.{place_there}
use Rattle.go_plain.proofs.StandingLemmas.{may_free, freed, still_sound}
use Rattle.go_plain.proofs.body.Body.free.Goals as goal

pub holding-seat-requires : goal.holding-seat-requires
holding-seat-requires g c =
    subst (λ (s : Seat). c.args.place < length s.places) (sym c.seat-older.ensures)
    (place_there (seat_at c.args.self.now.seats c.args.number).places c.args.place c.requires.held.0 c.requires.held.1)

pub set_seat-requires-clause-may : goal.set_seat-requires-clause-may
set_seat-requires-clause-may g c =
    let is = c.holding-seat.ensures ∙ ap (λ (s : Seat). record s { places = set s.places c.args.place Free }) c.seat-older.ensures in
    subst (MaySit c.args.self.now (seat_at c.args.self.now.seats c.args.number)) (sym is)
    (may_free g.D.Disk.device c.args.self.now c.args.number c.args.place (c.check.ensures.sound c.args.number c.requires.session))

pub returns-clause-frees : goal.returns-clause-frees
returns-clause-frees g c =
    let old = c.args.self.now in
    let is = c.holding-seat.ensures ∙ ap (λ (s : Seat). record s { places = set s.places c.args.place Free }) c.seat-older.ensures in
    let new = c.set_seat.ensures.seat ∙ ap (λ (s : Seat). record old { seats = seats_with old.seats c.args.number s }) is in
    subst (λ (s : PlainState _). IsPlacedAt c.args.place Free (standing_of g.D.Disk.device old c.args.number)
    (standing_of g.D.Disk.device s c.args.number)) (sym (c.forget_rows.ensures ∙ new))
    (freed g.D.Disk.device old c.args.number c.args.place Free c.requires.session)

pub returns-clause-sound : goal.returns-clause-sound
returns-clause-sound g c =
    rw c.forget_rows.ensures (still_sound g.D.Disk.device c.args.self.now c.set_seat.new.self c.args.number c.set_seat.ensures.stays c.requires.session)
