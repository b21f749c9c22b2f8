-- `released`: the views with other names stay.
use Rattle.std.proofs.Common.{ℕ, ◌∙◌, arith, subst}
use Rattle.go_rule.specs.Views.{frame_of}
use Rattle.go_views.specs.Pins.{HasUnpinnedEach}
use Rattle.go_views.proofs.SampleViews.{still_at, still_over}
use Rattle.go_views.proofs.Staying.{view_stays_losing}
use Rattle.go_rounds.proofs.looks.released.Goals as goal

pub returns : goal.returns
returns g c =
    let ring = c.args.ring.now in
    let t = ring.table.shared in
    let f = frame_of t.key in
    let me = c.args.seat.now.me in
    let now = c.release.new.seat.me in
    let two = c.requires.shards in
    let shards = ring.shards_is in
    let released : HasUnpinnedEach f 2 c.args.view.names me.0 now.0 =
    subst (λ (n : ℕ). HasUnpinnedEach f n c.args.view.names me.0 now.0) two c.release.ensures.released in
    let rest = released.turned.moved.rest in
    record {
      at = still_at t.table_id c.args.seat.now.table_id c.release.new.seat.table_id me.0 now.0 c.requires.at c.release.ensures.stays.0 rest;
      vertices = still_over me.0 now.0 rest ∙ c.requires.vertices;
      others = λ other apart is.
          view_stays_losing 2 other me.0 now.0 f (λ place less. omega arith) 2 c.args.view.names (λ place less within. apart place less) released.turned is;
    }
