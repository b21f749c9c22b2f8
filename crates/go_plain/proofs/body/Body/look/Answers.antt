-- What `look` needs and leads to.
use Rattle.std.proofs.Common.{length, sym, ap, subst, ◌∙◌}
use Rattle.go_plain.specs.Plain.{MaySit}
use Rattle.go_plain.specs.Seats.{seat_at, seats_with}
use Rattle.go_plain.specs.declared.seat.Seat.{Seat}
use Rattle.go_plain.proofs.StandingLemmas.{may_see}
use Rattle.go_plain.proofs.body.Body.look.Goals as goal

pub set_seat-requires-clause-may : goal.set_seat-requires-clause-may
set_seat-requires-clause-may g c =
    let seat : Seat = seat_at c.args.self.now.seats c.args.number in
    let is = c.seeing-seat.ensures ∙ ap (λ (s : Seat). record s { seen = c.head-seen.result }) c.seat.ensures
    ∙ ap (λ n. record seat { seen = n }) c.head-seen.ensures.exact in
    subst (MaySit c.args.self.now seat) (sym is)
    (may_see g.D.Disk.device c.args.self.now c.args.number (c.check.ensures.sound c.args.number c.requires.session))

pub returns-clause-seen : goal.returns-clause-seen
returns-clause-seen g c =
    let seat : Seat = seat_at c.args.self.now.seats c.args.number in
    let is = c.seeing-seat.ensures ∙ ap (λ (s : Seat). record s { seen = c.head-seen.result }) c.seat.ensures
    ∙ ap (λ n. record seat { seen = n }) c.head-seen.ensures.exact in
    c.set_seat.ensures.seat ∙ ap (λ (s : Seat). record c.args.self.now { seats = seats_with c.args.self.now.seats c.args.number s }) is
