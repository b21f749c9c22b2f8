-- `shows`: a shard was asked, and the seat's views stay.
use Rattle.std.proofs.Common.{◌∙◌, arith}
use Rattle.go_rule.specs.Views.{frame_of}
use Rattle.go_views.proofs.SampleViews.{still_at, still_over, views_going}
use Rattle.go_rounds.proofs.looks.shows.Goals as goal

pub returns-in_err-neighbours-clause-others : goal.returns-in_err-neighbours-clause-others
returns-in_err-neighbours-clause-others g c = λ view is.
    let ring = c.args.ring.now in
    let two = c.requires.shards in
    let shards = ring.shards_is in
    views_going (frame_of ring.table.shared.key) c.loop-v.seat.me.0 c.neighbours.new.seat.me.0 (λ place less. omega arith) c.neighbours.ensures.on view
    (c.loop-v.invariant.others view is)

pub returns-in_err-neighbours_of-clause-others : goal.returns-in_err-neighbours_of-clause-others
returns-in_err-neighbours_of-clause-others g c = λ view is.
    let ring = c.args.ring.now in
    let two = c.requires.shards in
    let shards = ring.shards_is in
    views_going (frame_of ring.table.shared.key) c.loop-v.seat.me.0 c.neighbours.new.seat.me.0 (λ place less. omega arith) c.neighbours.ensures.on view
    (c.loop-v.invariant.others view is)

pub loop-v-preserved : goal.loop-v-preserved
loop-v-preserved g c =
    let ring = c.args.ring.now in
    let t = ring.table.shared in
    let two = c.requires.shards in
    let shards = ring.shards_is in
    let was = c.loop-v.seat in
    let now = c.neighbours.new.seat in
    let on = c.neighbours.ensures.on in
    let inv = c.loop-v.invariant in
    record {
      at = still_at t.table_id was.table_id now.table_id was.me.0 now.me.0 inv.at c.neighbours.ensures.stays.0 on.rest;
      vertices = still_over was.me.0 now.me.0 on.rest ∙ inv.vertices;
      others = λ view is. views_going (frame_of t.key) was.me.0 now.me.0 (λ place less. omega arith) on view (inv.others view is);
    }
