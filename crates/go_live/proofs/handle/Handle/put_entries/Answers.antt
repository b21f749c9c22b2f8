-- `put_entries`: a run more was put.
use Rattle.std.proofs.Common.{◌+◌, ◌<◌, ◌≤◌, length, take, drop, arith, subst}
use Rattle.std.specs.Prelude.{All}
use Rattle.go_api.specs.Alone.{positions}
use Rattle.go_live.specs.GoingOn.{served_on}
use Rattle.go_live.specs.Handles.{stands_in}
use Rattle.go_live.proofs.PutRuns.{run_done, run_long}
use Rattle.go_live.proofs.Rows.{row_ends}
use Rattle.go_live.proofs.handle.Handle.put_entries.Goals as goal

pub overflow_add-last : goal.overflow_add-last
overflow_add-last g c =
    let head = c.put_claim.new.self.seat.me.0.core.head in
    let small = c.in-Ok.ensures.is.knows.small in
    let edges = c.args.edges.now in
    let count = c.min-count.result in
    let done = c.loop-done.done in
    let less = c.loop-done-test.true in
    let least = c.min-count.ensures in
    let long = run_long edges done count (omega arith) in
    let end : c.in-Ok.first + count ≤ head =
    row_ends head c.in-Ok.first count (omega arith)
    (subst (λ k. All (λ p. p < head) (positions c.in-Ok.first k)) long c.in-Ok.ensures.puts.put.known) in
    omega arith

pub loop-done-preserved : goal.loop-done-preserved
loop-done-preserved g c =
    let t = c.args.ring.now.table.shared in
    let edges = c.args.edges.now in
    let count = c.min-count.result in
    let done = c.loop-done.done in
    let less = c.loop-done-test.true in
    let least = c.min-count.ensures in
    let inv = c.loop-done.invariant in (
      omega arith,
      c.in-Ok.ensures.is,
      run_done (stands_in t.key c.args.self.now) (stands_in t.key c.loop-done.self) (stands_in t.key c.put_claim.new.self) edges done count c.in-Ok.first
          c.loop-done.last (omega arith) (omega arith) inv.2 c.in-Ok.ensures.puts,
      served_on c.args.self.now c.loop-done.self c.put_claim.new.self inv.3 c.in-Ok.ensures.serves,
    )
