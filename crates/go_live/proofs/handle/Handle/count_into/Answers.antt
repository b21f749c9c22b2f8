-- `count_into`: the list is as long as there are neighbours, fewer than a number of 32 bits tells.
use Rattle.std.proofs.Common.{length, ap, sym, ◌∙◌, arith}
use Rattle.go_live.specs.Handles.{stands_in}
use Rattle.go_live.proofs.Short.{neighbours_short}
use Rattle.go_live.proofs.Sound.{handle_sound}
use Rattle.go_live.proofs.handle.Handle.count_into.Goals as goal

pub overflow_cast-result : goal.overflow_cast-result
overflow_cast-result g c =
    let t = c.args.ring.now.table.shared in
    let h = c.args.self.now in
    let s = stands_in t.key h in
    let can = c.requires.can in
    let long = ap length (c.in-Ok.ensures.lists.1 can.front can.held) in
    let short = neighbours_short s.log.seen can.front c.args.vertex (handle_sound t.table_id t.key h c.requires.is).sees.short in
    omega (arith, c.len.ensures)

pub returns-in-Ok-clause-counts : goal.returns-in-Ok-clause-counts
returns-in-Ok-clause-counts g c =
    let can = c.requires.can in
    let listed = c.in-Ok.ensures.lists in
    (listed.0, λ list at. let long = ap length (listed.1 can.front can.held ∙ sym (at can.front can.held)) in omega (arith, c.len.ensures))
