-- `list_in`: what the shard lists.
use Rattle.std.proofs.Common.{sym, subst}
use Rattle.go_piece.specs.Pieces.{OnShard}
use Rattle.go_views.specs.Reading.{Lists}
use Rattle.go_views.proofs.Reading.{lists}
use Rattle.go_views.proofs.live_view.list_in.Goals as goal

pub returns : goal.returns
returns g c =
    subst (OnShard (Lists c.args.v c.args.pin c.args.later.now c.list_pinned.result c.list_pinned.new.out.items)) (sym c.in-Shard.is)
    (lists c.args.v c.args.pin c.args.later.now c.list_pinned.new.out.items c.in-Shard.shard c.list_pinned.result c.list_pinned.ensures.within
    c.list_pinned.ensures.list)
