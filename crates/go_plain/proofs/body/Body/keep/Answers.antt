-- What `keep` needs and leads to.
use Rattle.std.proofs.Common.{◌≡◌, length, set, sym, ap, subst, ◌∙◌}
use Rattle.go_plain.specs.Plain.{MaySit}
use Rattle.go_plain.specs.Seats.{seat_at, seats_with}
use Rattle.go_plain.specs.declared.seat.Seat.{Seat}
use Rattle.go_plain.proofs.StandingLemmas.{may_keep}
use Rattle.go_plain.proofs.body.Body.keep.Given.{Over}
use Rattle.go_plain.proofs.body.Body.keep.Goals.{After-holding-seat}
use Rattle.go_plain.proofs.body.Body.keep.Goals as goal

-- the seat that is given
given : (g : Over) (c : After-holding-seat g) → c.holding-seat.result ≡ record (seat_at c.args.self.now.seats c.args.number) {
  seen = length c.args.self.now.log;
  places = set (seat_at c.args.self.now.seats c.args.number).places c.args.place c.args.held;
}
given g c =
    let seat : Seat = seat_at c.args.self.now.seats c.args.number in
    let seen = c.seeing.ensures ∙ ap (λ (s : Seat). record s { seen = c.head-seen.result }) c.seat.ensures
    ∙ ap (λ n. record seat { seen = n }) c.head-seen.ensures.exact in
    c.holding-seat.ensures ∙ ap (λ (s : Seat). record s { places = set s.places c.args.place c.args.held }) seen

pub set_seat-requires-clause-may : goal.set_seat-requires-clause-may
set_seat-requires-clause-may g c =
    subst (MaySit c.args.self.now (seat_at c.args.self.now.seats c.args.number)) (sym (given g (goal.at.set_seat-requires-clause-may g c).After-holding-seat))
    (may_keep g.D.Disk.device c.args.self.now c.args.number c.args.place c.args.held (c.check.ensures.sound c.args.number c.requires.session)
    c.requires.shows c.requires.views)

pub returns-clause-kept : goal.returns-clause-kept
returns-clause-kept g c =
    c.set_seat.ensures.seat ∙ ap (λ (s : Seat). record c.args.self.now { seats = seats_with c.args.self.now.seats c.args.number s })
    (given g (goal.at.returns-clause-kept g c).After-holding-seat)
