-- The front of a view.
use Rattle.std.proofs.Common.{◌≡◌, ℕ, get_or, sym, subst, arith}
use Rattle.std.specs.Prelude.{Contains}
use Rattle.go_api.specs.declared.place.Place.TheVariants.{Free, View}
use Rattle.go_plain.specs.Seats.{seat_at}
use Rattle.go_plain.specs.Views.{views_of}
use Rattle.go_plain.specs.declared.seat.Seat.{Seat}
use Rattle.go_plain.proofs.PlacesLemmas.{view_there, view_read, shown_within}
use Rattle.go_plain.proofs.SeatsLemmas.{view_among}
use Rattle.go_plain.proofs.StandingLemmas.{sees_within}
use Rattle.go_plain.proofs.body.Body.front_at.Goals as goal

pub returns-clause-viewed : goal.returns-clause-viewed
returns-clause-viewed g c =
    let store = c.args.self.now in
    let seat : Seat = seat_at store.seats c.args.number in
    let front = c.in-View.front in
    let there = c.requires.view.0 in
    let sound = c.check.ensures.sound c.args.number c.requires.session in
    let held = subst (λ (s : Seat). get_or s.places c.args.place Free ≡ View front) c.seat.ensures c.in-View.is in
    let same = view_read seat.places c.args.place front there held c.requires.view.1 in
    let seen = shown_within seat.places c.args.place front seat.seen sound.count sound.shown held in
    record {
      among = view_among store.seats c.args.number front c.requires.session
          (subst (λ (n : ℕ). Contains (views_of seat.places) n) (sym same) (view_there seat.places c.args.place there c.requires.view.1));
      within = omega (arith, seen, sees_within g.D.Disk.device store c.args.number sound);
    }
