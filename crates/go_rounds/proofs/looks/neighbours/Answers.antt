-- `neighbours`: the seat's views stay.
use Rattle.std.proofs.Common.{◌∙◌, arith}
use Rattle.go_rule.specs.Views.{frame_of}
use Rattle.go_views.proofs.SampleViews.{still_at, still_over, views_going}
use Rattle.go_rounds.proofs.looks.neighbours.Goals as goal

pub returns : goal.returns
returns g c =
    let ring = c.args.ring.now in
    let t = ring.table.shared in
    let was = c.args.seat.now in
    let now = c.neighbours.new.seat in
    let on = c.neighbours.ensures.on in
    let two = c.requires.shards in
    let shards = ring.shards_is in
    record {
      at = still_at t.table_id was.table_id now.table_id was.me.0 now.me.0 c.requires.at c.neighbours.ensures.stays.0 on.rest;
      vertices = still_over was.me.0 now.me.0 on.rest ∙ c.requires.vertices;
      others = λ view is. views_going (frame_of t.key) was.me.0 now.me.0 (λ place less. omega arith) on view is;
    }
