-- `taken`: the seat has the view beside those that it had.
use Rattle.std.proofs.Common.{ℕ, ◌∙◌, arith, subst}
use Rattle.go_rule.specs.Views.{frame_of}
use Rattle.go_views.specs.Taking.{Takes}
use Rattle.go_views.proofs.SampleViews.{still_at, still_over, rest_taking, view_taken, apart_taken}
use Rattle.go_views.proofs.Staying.{view_stays_taking}
use Rattle.go_rounds.proofs.looks.taken.Goals as goal

pub returns : goal.returns
returns g c =
    let ring = c.args.ring.now in
    let t = ring.table.shared in
    let f = frame_of t.key in
    let slots = t.table_id.slots in
    let me = c.args.seat.now.me in
    let now = c.take_view.new.seat.me in
    let result = c.take_view.result in
    let two = c.requires.shards in
    let shards = ring.shards_is in
    let takes : Takes f slots 2 c.args.floor me result now =
    subst (λ (n : ℕ). Takes f slots n c.args.floor me result now) two c.take_view.ensures.takes in
    let rest = rest_taking f slots c.args.floor me now result takes in
    record {
      at = still_at t.table_id c.args.seat.now.table_id c.take_view.new.seat.table_id me.0 now.0 c.requires.at c.take_view.ensures.stays.0 rest;
      long = c.take_view.ensures.long;
      vertices = still_over me.0 now.0 rest ∙ c.requires.vertices;
      view = view_taken f slots c.args.floor me now result takes;
      others = λ view is. view_stays_taking 2 view me.0 now.0 f (λ place less. omega arith) slots c.args.floor me.1 now.1 result takes is;
      apart = λ view is. apart_taken f slots c.args.floor me now result view takes is;
    }
