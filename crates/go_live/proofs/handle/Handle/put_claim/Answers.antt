-- `put_claim`: the claim was placed or given up, and the log's length was loaded.
use Rattle.std.proofs.Common.{refl, sym, ◌∙◌, ◌||◌, ◌+◌, length, subst}
use Rattle.go_live.specs.Handles.{is_disk, IsHandle}
use Rattle.go_live.proofs.PutHandles.{given_up_handle, placed_handle, placed_stands}
use Rattle.go_live.proofs.Rows.{entries_below}
use Rattle.go_live.proofs.Sound.{below_greater}
use Rattle.go_live.specs.Standings.{positions_of}
use Rattle.go_live.proofs.handle.Handle.put_claim.Goals as goal

pub place-placed-requires-clause-own : goal.place-placed-requires-clause-own
place-placed-requires-clause-own g c =
    let d = c.args.self.now.seat.me.0 in
    let owns = c.requires.is.steady.kept.owns in
    entries_below d.core.head d.core.own (below_greater c.args.self.now.next d.core.head (positions_of d.core.own) owns.known owns.before)

pub returns-in-Ok-clause-is : goal.returns-in-Ok-clause-is
returns-in-Ok-clause-is g c =
    let t = c.args.ring.now.table.shared in
    let p = c.in-Ok.ensures.places in
    placed_handle t.table_id t.key c.args.self.now _ c.args.edges.now c.place-placed.new.seat.me.0
    (record {
      table_is = c.refresh.ensures.stays.0 ∙ c.place-placed.ensures.stays.0;
      id_is = c.refresh.ensures.stays.1 ∙ c.place-placed.ensures.stays.1;
      hand = c.refresh.ensures.hand ∙ c.place-placed.ensures.hand;
      words = refl;
      numbers = (refl, refl);
      held = refl;
      seen = refl;
      claimed = p.claimed;
      on = c.refresh.ensures.on;
      stake = c.refresh.ensures.pins;
      knows = c.refresh.ensures.knows;
      own = c.refresh.ensures.own;
    })
    c.requires.is c.in-Ok.first c.requires.some p refl refl

pub returns-in-Ok-clause-puts : goal.returns-in-Ok-clause-puts
returns-in-Ok-clause-puts g c =
    let t = c.args.ring.now.table.shared in
    let p = c.in-Ok.ensures.places in
    placed_stands t.table_id t.key c.args.self.now
    (record c.args.self.now { seat = c.refresh.new.seat; next = c.in-Ok.first + length c.args.edges.now }) c.args.edges.now c.place-placed.new.seat.me.0
    (record {
      table_is = c.refresh.ensures.stays.0 ∙ c.place-placed.ensures.stays.0;
      id_is = c.refresh.ensures.stays.1 ∙ c.place-placed.ensures.stays.1;
      hand = c.refresh.ensures.hand ∙ c.place-placed.ensures.hand;
      words = refl;
      numbers = (refl, refl);
      held = refl;
      seen = refl;
      claimed = p.claimed;
      on = c.refresh.ensures.on;
      stake = c.refresh.ensures.pins;
      knows = c.refresh.ensures.knows;
      own = c.refresh.ensures.own;
    })
    c.requires.is c.in-Ok.first c.requires.some p refl refl

pub returns-in-Err-clause-is : goal.returns-in-Err-clause-is
returns-in-Err-clause-is g c =
    let t = c.args.ring.now.table.shared in
    let h = c.args.self.now in
    let p = c.in-Err.ensures.places in
    subst (IsHandle t.table_id t.key) (sym c.note.ensures)
    (given_up_handle t.table_id t.key h (record h { seat = c.refresh.new.seat; met = h.met || is_disk c.in-Err.why }) c.args.edges.now
    c.place-placed.new.seat.me.0
    (record {
      table_is = c.refresh.ensures.stays.0 ∙ c.place-placed.ensures.stays.0;
      id_is = c.refresh.ensures.stays.1 ∙ c.place-placed.ensures.stays.1;
      hand = c.refresh.ensures.hand ∙ c.place-placed.ensures.hand;
      words = refl;
      numbers = (refl, refl);
      held = refl;
      seen = refl;
      claimed = p.claimed;
      on = c.refresh.ensures.on;
      stake = c.refresh.ensures.pins;
      knows = c.refresh.ensures.knows;
      own = c.refresh.ensures.own;
    })
    c.requires.is c.in-Err.why p refl refl)
