-- `flush_turn`: the durable front was loaded, a run was taken and appended, and the front moved behind it.
use Rattle.std.proofs.Common.{rules, Err, ◌≡◌, ◌+◌, length, take, sym, ap, ◌∙◌, arith, subst}
use Rattle.std.proofs.lemmas.List.{length-take-le}
use Rattle.atomic_table.specs.Table.{step}
use mathlib.Core.Option.{none}
use Rattle.go_rule.specs.Views.{frame_of}
use Rattle.go_ring.specs.Takes.{IsLongest}
use Rattle.go_workers.proofs.RunsRead.{has_read}
use Rattle.go_workers.proofs.TurnsDone.{gone_own_durable, durable_moved, turn_stops}
use Rattle.go_workers.proofs.flushing.flush_turn.Goals as goal

pub append_run-requires-clause-read : goal.append_run-requires-clause-read
append_run-requires-clause-read g c =
    let out = c.take-count.new.out in
    let count = c.take-count.result in
    let e = c.take-count.ensures in
    let few = e.few in
    let rest = e.rest.0 in
    let long : length (take count out) ≡ count = length-take-le count out (omega arith) in
    let ne = c.if-count-eq0.false in
    has_read (length c.args.buf.now) c.own_durable-from.result (take count out) c.own_durable-from.new.seat.me c.take-count.new.seat.me (omega arith) e.takes

pub returns-in_err-append_run-clause-turn : goal.returns-in_err-append_run-clause-turn
returns-in_err-append_run-clause-turn g c =
    let ring = c.args.ring.now in
    let t = ring.table.shared in
    let f = frame_of t.key in
    let from = c.own_durable-from.result in
    let run = take c.take-count.result c.take-count.new.out in
    let one = c.own_durable-from.new.seat.me in
    let loads = c.own_durable-from.ensures.tells in
    let refusal : c.from_residual.result ≡ Err c.in_err-append_run.field-0.0 = search rules in
    rw refusal
    (turn_stops g.D.Disk.device f ring.shards (from + length run) c.args.seat.now.me one c.take-count.new.seat.me c.append_run.new.seat.me from
    (length c.args.buf.now) run (gone_own_durable f (step t.table_id.slots 2 0 0 none) from c.args.seat.now.me one loads)
    (ap (λ z. z.1) loads.loads.becomes) c.take-count.ensures.takes (ap (λ z. z.0.core.durable) loads.loads.becomes ∙ loads.own.known_is)
    (Unit {0}) c.in_err-append_run.field-0.0 c.in_err-append_run.ensures.filed)

pub returns-clause-turn : goal.returns-clause-turn
returns-clause-turn g c =
    let ring = c.args.ring.now in
    let t = ring.table.shared in
    let from = c.own_durable-from.result in
    let out = c.take-count.new.out in
    let count = c.take-count.result in
    let e = c.take-count.ensures in
    let few = e.few in
    let rest = e.rest.0 in
    let long : length (take count out) ≡ count = length-take-le count out (omega arith) in
    let ne = c.if-count-eq0.false in
    let one = c.own_durable-from.new.seat.me in
    let filed = c.in_ok-append_run.ensures.filed in
    durable_moved (frame_of t.key) (step t.table_id.slots 2 0 0 none) (step t.table_id.slots 2 (from + count) 0 none) ring.shards
    (length c.args.buf.now) from (take count out) c.args.seat.now.me one c.take-count.new.seat.me c.append_run.new.seat.me
    c.own_durable-from.ensures.tells e.takes filed.0 (from + count) c.advance_durable.new.seat.me (omega arith)
    (subst (IsLongest t.key.layout.ring (length c.args.buf.now) one.0 from) (sym long) e.longest) (has_read (length c.args.buf.now) from (take count out) one c.take-count.new.seat.me (omega arith) e.takes) (omega arith)
    filed.1 c.advance_durable.ensures.moves
