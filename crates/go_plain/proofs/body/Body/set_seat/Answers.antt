-- What `set_seat` keeps and leads to.
use Rattle.std.proofs.Common.{length, sym, ap, subst, ◌∙◌}
use Rattle.go_plain.specs.Plain.{PlainState, HasSession, MaySit}
use Rattle.go_plain.specs.Seats.{seat_at}
use Rattle.go_plain.proofs.SeatsLemmas.{seats_long}
use Rattle.go_plain.proofs.StandingLemmas.{stays_store}
use Rattle.go_plain.proofs.StoreLemmas.{plain_seat, seat_is}
use Rattle.go_plain.proofs.body.Body.set_seat.Goals as goal

pub invariant_of-self : goal.invariant_of-self
invariant_of-self g c =
    let session = subst (λ (s : PlainState _). HasSession s c.args.number) (sym c.self.view_is) c.requires.session in
    let may = subst (λ (s : PlainState _). MaySit s (seat_at s.seats c.args.number) c.args.seat) (sym c.self.view_is) c.requires.may in
    let are = c.give_seat.ensures in (
      c.self.invariant.0,
      plain_seat g.D.Disk.device _ c.self.inside.ring c.self.inside.shards.items c.self.invariant.1 c.args.number c.args.seat c.give_seat.new.seats.items
          session may are,
      c.self.invariant.2,
    )

pub returns-clause-seat : goal.returns-clause-seat
returns-clause-seat g c =
    let are = c.give_seat.ensures in
    seat_is _ c.args.self.now c.args.number c.args.seat c.give_seat.new.seats.items c.self.view_is are

pub returns-clause-stays : goal.returns-clause-stays
returns-clause-stays g c =
    let are = c.give_seat.ensures in
    let long = ap length are ∙ seats_long c.self.inside.seats.items c.args.number c.args.seat ∙ ap (λ (s : PlainState _). length s.seats) c.self.view_is in
    stays_store g.D.Disk.device c.args.self.now _ c.self.inside.ring c.self.inside.shards.items long (invariant_of-self g c).1
