-- `archive_turn`: the archived front was loaded, a run was taken and given to the shards, and the front moved behind it.
use Rattle.std.proofs.Common.{rules, Err, ◌≡◌, ◌+◌, length, take, sym, ap, ◌∙◌, arith, subst}
use Rattle.std.proofs.lemmas.List.{length-take-le}
use Rattle.atomic_table.specs.Table.{step}
use mathlib.Core.Option.{none}
use Rattle.go_rule.specs.Views.{frame_of}
use Rattle.go_ring.specs.Takes.{IsLongest}
use Rattle.go_piece.specs.Pieces.{state_in}
use Rattle.go_workers.proofs.RunsRead.{fronts_run}
use Rattle.go_workers.proofs.TurnsDone.{may_bring_own, can_archive, archived_refused, archived_moved}
use Rattle.go_workers.proofs.archiving.archive_turn.Goals as goal

pub bring_all_on-requires-clause-may : goal.bring_all_on-requires-clause-may
bring_all_on-requires-clause-may g c =
    let t = c.args.ring.now.table.shared in
    let out = c.take-count.new.out in
    let count = c.take-count.result in
    let e = c.take-count.ensures in
    let few = e.few in
    let rest = e.rest.0 in
    let long : length (take count out) ≡ count = length-take-le count out (omega arith) in
    let ne = c.if-count-eq0.false in
    let one = c.own_archived-from.new.seat.me in
    may_bring_own state_in (frame_of t.key) (step t.table_id.slots 1 0 0 none) c.own_archived-from.result c.args.seat.now.me one
    c.own_archived-from.ensures.tells (length c.args.buf.now) (take count out) c.take-count.new.seat.me c.requires.archives c.requires.room (omega arith) e.takes
    (subst (IsLongest t.key.layout.ring (length c.args.buf.now) one.0 c.own_archived-from.result) (sym long) e.longest)

pub returns-in_err-bring_all_on-clause-turn : goal.returns-in_err-bring_all_on-clause-turn
returns-in_err-bring_all_on-clause-turn g c =
    let t = c.args.ring.now.table.shared in
    let refusal : c.from_residual-in_err-bring_all_on.result ≡ Err c.in_err-bring_all_on.field-0.0 = search rules in
    rw refusal
    (archived_refused state_in (frame_of t.key) (step t.table_id.slots 1 0 0 none) (step t.table_id.slots 1 0 0 none) 0 (length c.args.buf.now)
    c.own_archived-from.result (take c.take-count.result c.take-count.new.out) c.args.seat.now.me c.own_archived-from.new.seat.me c.take-count.new.seat.me
    c.bring_all_on.new.seat.me c.own_archived-from.ensures.tells c.take-count.ensures.takes c.in_err-bring_all_on.ensures.served)

pub advance_archived-requires-clause-can : goal.advance_archived-requires-clause-can
advance_archived-requires-clause-can g c =
    let ring = c.args.ring.now in
    let t = ring.table.shared in
    let from = c.own_archived-from.result in
    let out = c.take-count.new.out in
    let count = c.take-count.result in
    let e = c.take-count.ensures in
    let few = e.few in
    let rest = e.rest.0 in
    let long : length (take count out) ≡ count = length-take-le count out (omega arith) in
    let shards = ring.shards_is in
    let ne = c.if-count-eq0.false in
    let one = c.own_archived-from.new.seat.me in
    let known = (fronts_run (length c.args.buf.now) from (take count out) one c.take-count.new.seat.me e.takes).0
    ∙ ap (λ z. z.0.core.archived) c.own_archived-from.ensures.tells.loads.becomes in
    can_archive (frame_of t.key) t.key.layout.shards from (take count out) c.take-count.new.seat.me c.bring_all_on.new.seat.me
    c.in_ok-bring_all_on.ensures.served (from + count) (omega arith) (may_bring_own state_in (frame_of t.key) (step t.table_id.slots 1 0 0 none) from c.args.seat.now.me one c.own_archived-from.ensures.tells
    (length c.args.buf.now) (take count out) c.take-count.new.seat.me c.requires.archives c.requires.room (omega arith) e.takes
    (subst (IsLongest t.key.layout.ring (length c.args.buf.now) one.0 from) (sym long) e.longest)) known
    (λ place less. c.in_ok-bring_all_on.ensures.stood place (omega arith))

pub returns-clause-turn : goal.returns-clause-turn
returns-clause-turn g c =
    let ring = c.args.ring.now in
    let t = ring.table.shared in
    let from = c.own_archived-from.result in
    let out = c.take-count.new.out in
    let count = c.take-count.result in
    let e = c.take-count.ensures in
    let few = e.few in
    let rest = e.rest.0 in
    let long : length (take count out) ≡ count = length-take-le count out (omega arith) in
    let ne = c.if-count-eq0.false in
    let one = c.own_archived-from.new.seat.me in
    archived_moved state_in (frame_of t.key) (step t.table_id.slots 1 0 0 none) (step t.table_id.slots 1 (from + count) 0 none) ring.shards
    (length c.args.buf.now) from (take count out) c.args.seat.now.me one c.take-count.new.seat.me c.bring_all_on.new.seat.me
    c.own_archived-from.ensures.tells e.takes c.in_ok-bring_all_on.ensures.served (from + count) c.advance_archived.new.seat.me (omega arith)
    (subst (IsLongest t.key.layout.ring (length c.args.buf.now) one.0 from) (sym long) e.longest) (may_bring_own state_in (frame_of t.key) (step t.table_id.slots 1 0 0 none) from c.args.seat.now.me one c.own_archived-from.ensures.tells
    (length c.args.buf.now) (take count out) c.take-count.new.seat.me c.requires.archives c.requires.room (omega arith) e.takes
    (subst (IsLongest t.key.layout.ring (length c.args.buf.now) one.0 from) (sym long) e.longest)) (omega arith)
    c.in_ok-bring_all_on.ensures.stood c.advance_archived.ensures.moves
