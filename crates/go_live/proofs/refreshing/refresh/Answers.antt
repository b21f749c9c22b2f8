-- `refresh`: the length was loaded.
use Rattle.std.proofs.Common.{ℕ, ◌+◌, sym, ap, arith, subst}
use Rattle.std.specs.Prelude.{All}
use Rattle.std.proofs.lemmas.List.Elements.{All-weaker}
use Rattle.atomic_table.specs.Table.{step}
use mathlib.Core.Option.{none}
use Rattle.go_core.specs.declared.entry.Entry.{Entry}
use Rattle.go_rule.specs.Views.{frame_of}
use Rattle.go_turns.proofs.Going.{gone_head}
use Rattle.go_live.proofs.Knowing.{knows_loaded, owns_loaded}
use Rattle.go_live.proofs.refreshing.refresh.Goals as goal

pub returns-clause-on : goal.returns-clause-on
returns-clause-on g c =
    let t = c.args.ring.now.table.shared in
    gone_head (frame_of t.key) (step t.table_id.slots 0 0 0 none) c.args.seat.now.me c.load_head.new.seat.me c.load_head.result c.load_head.ensures.tells

pub returns-clause-knows : goal.returns-clause-knows
returns-clause-knows g c seen within =
    let t = c.args.ring.now.table.shared in
    knows_loaded (frame_of t.key) (step t.table_id.slots 0 0 0 none) c.args.seat.now.me c.load_head.new.seat.me c.load_head.result seen
    c.load_head.ensures.tells within

pub returns-clause-own : goal.returns-clause-own
returns-clause-own g c =
    let t = c.args.ring.now.table.shared in
    owns_loaded (frame_of t.key) (step t.table_id.slots 0 0 0 none) c.args.seat.now.me c.load_head.new.seat.me c.load_head.result c.load_head.ensures.tells
