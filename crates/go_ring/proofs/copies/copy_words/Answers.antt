-- `copy_words`: a matched word is held, and another ends it.
use Rattle.std.proofs.Common.{◌≡◌, ℕ, ◌+◌, ◌-◌, ◌%◌, set, sym, refl, ap, ◌∙◌, inl, inr, arith, subst}
use Rattle.std.proofs.lemmas.List.{length-set}
use Rattle.go_word.specs.Word.{is_matched}
use Rattle.go_rule.specs.Views.{frame_of}
use Rattle.go_ring.specs.Reads.{Held}
use Rattle.go_ring.proofs.Copying.{only_next, held_next, stops_next, held_read}
use Rattle.go_ring.proofs.copies.copy_words.Goals as goal

pub loop-next-init : goal.loop-next-init
loop-next-init g c =
    let order = c.requires.can.order in (
      refl,
      refl,
      refl,
      refl,
      refl,
      record {
        rest = refl;
        told = refl;
        head = refl;
        archived = refl;
        durable = refl;
        seen = refl;
        passed = omega arith;
        fresh = λ stale. stale;
      },
      c.requires.held,
      omega arith,
      order,
      c.new-cursor.ensures,
    )

pub load_ahead-word-requires-clause-at_ring : goal.load_ahead-word-requires-clause-at_ring
load_ahead-word-requires-clause-at_ring g c =
    let inv = c.loop-next.invariant in
    let at = c.requires.at in (inv.0 ∙ at.0, inv.2 ∙ at.1)

pub load_ahead-word-requires-clause-can : goal.load_ahead-word-requires-clause-can
load_ahead-word-requires-clause-can g c =
    let inv = c.loop-next.invariant in
    let only = inv.5 in
    let archived = only.archived in
    let durable = only.durable in
    let head = only.head in
    let can = c.requires.can in
    let low = can.low in
    let lap = can.lap in
    let within = can.within in
    let onward = inv.7 in
    let less = c.loop-next-test.true in
    record { from = omega arith; to = omega arith; within = omega arith }

pub returns-then-not-matches-clause-stays : goal.returns-then-not-matches-clause-stays
returns-then-not-matches-clause-stays g c =
    let inv = c.loop-next.invariant in
    let stays = c.load_ahead-word.ensures.stays in (stays.0 ∙ inv.0, stays.1 ∙ inv.1)

pub returns-then-not-matches-clause-hand : goal.returns-then-not-matches-clause-hand
returns-then-not-matches-clause-hand g c = ap (λ z. z.1) c.load_ahead-word.ensures.tells.becomes ∙ c.loop-next.invariant.3

pub returns-then-not-matches-clause-reads : goal.returns-then-not-matches-clause-reads
returns-then-not-matches-clause-reads g c =
    let inv = c.loop-next.invariant in
    let slots = c.args.ring.now.slots in
    let next = c.loop-next.next in
    let word = c.load_ahead-word.result in
    let me = c.loop-next.seat.me in
    let now = c.load_ahead-word.new.seat.me in
    let tells = c.load_ahead-word.ensures.tells in
    let f = frame_of c.args.ring.now.table.shared.key in
    let is = c.matches.ensures f next inv.9 ∙ ap (λ n. is_matched n next word) (sym c.args.ring.now.slots_is) in
    let unmatched = sym is ∙ c.if-not-matches.true in
    let onward = inv.7 in
    let within = inv.8 in
    record {
      only = only_next slots next word c.args.seat.now.me.0 me now inv.5 tells;
      onward = onward;
      within = within;
      held = held_read slots next word next me now c.loop-next.buf tells inv.6;
      ended = inr (stops_next slots next word c.args.to me now tells unmatched c.loop-next-test.true);
    }

pub loop-next-preserved : goal.loop-next-preserved
loop-next-preserved g c =
    let inv = c.loop-next.invariant in
    let slots = c.args.ring.now.slots in
    let next = c.loop-next.next in
    let buf = c.loop-next.buf in
    let word = c.load_ahead-word.result in
    let me = c.loop-next.seat.me in
    let now = c.load_ahead-word.new.seat.me in
    let tells = c.load_ahead-word.ensures.tells in
    let stays = c.load_ahead-word.ensures.stays in
    let slots_is = c.args.ring.now.slots_is in
    let f = frame_of c.args.ring.now.table.shared.key in
    let on = inv.9 in
    let left = on.left in
    let here : next % slots ≡ slots - c.loop-next.cursor.left = ap (λ n. next % n) slots_is ∙ omega arith in
    let is = c.matches.ensures f next on ∙ ap (λ n. is_matched n next word) (sym slots_is) in
    let matched = sym is ∙ c.if-not-matches.false in
    let only = inv.5 in
    let archived = only.archived in
    let durable = only.durable in
    let lap = c.requires.can.lap in
    let less = c.loop-next-test.true in
    let onward = inv.7 in
    let sets = length-set buf (slots - c.loop-next.cursor.left) word in (
      stays.0 ∙ inv.0,
      stays.1 ∙ inv.1,
      ap (λ z. z.0.core.live) tells.becomes ∙ inv.2,
      ap (λ z. z.1) tells.becomes ∙ inv.3,
      sets ∙ inv.4,
      only_next slots next word c.args.seat.now.me.0 me now inv.5 tells,
      subst (λ (k : ℕ). Held slots now.0.core (set buf k word) (next + 1)) here
          (held_next slots next word me now buf tells matched (inv.4 ∙ c.requires.room) c.args.ring.now.some (omega arith) inv.6),
      omega arith,
      omega arith,
      c.next-cursor.ensures,
    )

pub returns-clause-stays : goal.returns-clause-stays
returns-clause-stays g c = (c.loop-next.invariant.0, c.loop-next.invariant.1)

pub returns-clause-hand : goal.returns-clause-hand
returns-clause-hand g c = c.loop-next.invariant.3

pub returns-clause-reads : goal.returns-clause-reads
returns-clause-reads g c =
    let inv = c.loop-next.invariant in
    let over = c.loop-next-test.false in
    let within = inv.8 in
    let onward = inv.7 in
    record { only = inv.5; onward = onward; within = within; held = inv.6; ended = inl (omega arith) }
