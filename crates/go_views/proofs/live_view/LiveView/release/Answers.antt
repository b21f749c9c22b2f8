-- `release`: the seat has the view's pins.
use Rattle.std.proofs.Common.{sym, ap, ◌∙◌, subst}
use Rattle.go_views.specs.PlaceTurns.{HasNames}
use Rattle.go_views.proofs.Staying.{view_named}
use Rattle.go_views.proofs.live_view.LiveView.release.Goals as goal

pub unpin_each-requires-clause-named : goal.unpin_each-requires-clause-named
unpin_each-requires-clause-named g c =
    let d = c.args.seat.now.me.0 in
    subst (λ names. HasNames names d) (sym (c.deref.ensures.value ∙ ap (λ v. v.names) c.self.view_is))
    (view_named c.args.ring.now.shards c.args.self d c.requires.is)
