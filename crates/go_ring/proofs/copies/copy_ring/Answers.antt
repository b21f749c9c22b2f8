-- `copy_ring`: each turn goes on, less is left after it, and the end tells what it has to.
use Rattle.std.proofs.Common.{◌≡◌, ◌⊎◌, ℕ, ◌+◌, ◌^◌, ◌<◌, ◌≤◌, min, max, sym, refl, ap, ◌∙◌, inl, inr, ⊎_elim, arith, subst}
use Rattle.go_rule.specs.Views.{frame_of}
use Rattle.go_rule.specs.Steps.{CanEnd}
use Rattle.go_ring.specs.declared.copied.Copied.{Copied}
use Rattle.go_ring.specs.Reads.{CanCopy, Held, Reads, StopsFor}
use Rattle.go_ring.proofs.Copying.{goes_same, goes_then, goes_reading, goes_head, goes_durable, goes_ending, goes_to_front}
use Rattle.go_ring.proofs.Turns.{Copying, Turned, EndsAt, begun, copying, can_copy, read_as, live_on, turned, turns_on, strides, shrinks}
use Rattle.go_ring.proofs.Ends.{can_end, ends, fronts, stops_so, ends_still}
use Rattle.go_ring.proofs.copies.copy_ring.Goals as goal
use Rattle.go_ring.proofs.copies.copy_ring.Goals.{then-archived-next-via-then-archived-next, then-archived-next-via-else-archived-next+then-limit-archived}

pub loop-next-init : goal.loop-next-init
loop-next-init g c =
    let f = frame_of c.args.ring.now.table.shared.key in
    let m0 = c.args.seat.now.me in
    let one = c.load_head in
    let two = c.load_archived-archived in
    let three = c.load_head-head in
    let four = c.load_durable-first_durable in
    let some' : 0 < f.slots = subst (λ (k : ℕ). 0 < k) c.args.ring.now.slots_is c.args.ring.now.some in
    let begin = begun g.T.Part.state_of f m0 one.new.seat.me two.new.seat.me one.result two.result one.ensures.tells two.ensures.tells in (
      four.ensures.stays.0 ∙ three.ensures.stays.0 ∙ two.ensures.stays.0 ∙ one.ensures.stays.0,
      four.ensures.stays.1 ∙ three.ensures.stays.1 ∙ two.ensures.stays.1 ∙ one.ensures.stays.1,
      ap (λ z. z.1) four.ensures.tells.becomes ∙ ap (λ z. z.1) three.ensures.tells.becomes ∙ ap (λ z. z.1) two.ensures.tells.becomes
          ∙ ap (λ z. z.1) one.ensures.tells.becomes,
      refl,
      copying f m0.0 two.new.seat.me three.new.seat.me four.new.seat.me two.result three.result four.result c.min-from.result
          c.args.buf.now some' begin three.ensures.tells four.ensures.tells c.min-from.ensures,
      sym (ap (λ z. z.0.core.head) four.ensures.tells.becomes ∙ ap (λ z. z.0.core.head) three.ensures.tells.becomes),
      goes_same four.new.seat.me.0,
      three.ensures.tells.small,
    )

pub copy_words-next-requires-clause-at : goal.copy_words-next-requires-clause-at
copy_words-next-requires-clause-at g c =
    let inv = c.loop-next.invariant in
    let at = c.requires.at in (inv.0 ∙ at.0, live_on c.args.seat.now.me.0 c.loop-next.seat.me.0 inv.4.ahead.on at.1)

pub copy_words-next-requires-clause-can : goal.copy_words-next-requires-clause-can
copy_words-next-requires-clause-can g c =
    let inv = c.loop-next.invariant in
    let slots_is = c.args.ring.now.slots_is in
    let from = c.min-from.result in
    let ring = c.args.ring.now.table.shared.key.layout.ring in
    subst (λ (k : ℕ). CanCopy k c.loop-next.seat.me.0.core c.loop-next.next c.min.result) (sym slots_is)
    (can_copy ring from c.min.result c.args.seat.now.me.0 c.loop-next.seat.me.0 c.loop-next.next c.loop-next.head inv.4.ahead inv.5
    (c.min.ensures ∙ ap (λ k. min c.loop-next.head (from + k)) slots_is))

pub copy_words-next-requires-clause-held : goal.copy_words-next-requires-clause-held
copy_words-next-requires-clause-held g c =
    subst (λ (k : ℕ). Held k c.loop-next.seat.me.0.core c.loop-next.buf c.loop-next.next) (sym c.args.ring.now.slots_is) c.loop-next.invariant.4.held

pub load_archived-archived-requires-in-loop-next :
    goal.load_archived-archived-requires-in-loop-next
load_archived-archived-requires-in-loop-next g c =
    let inv = c.loop-next.invariant in
    let at = c.requires.at in
    let words = c.copy_words-next.ensures in
    let m1 = c.copy_words-next.new.seat.me in
    record {
      at = (
        words.stays.0 ∙ inv.0 ∙ at.0,
        ap (λ z. z.core.live) words.reads.only.rest ∙ live_on c.args.seat.now.me.0 c.loop-next.seat.me.0 inv.4.ahead.on at.1,
      );
    }

pub load_head-head-requires-in-loop-next : goal.load_head-head-requires-in-loop-next
load_head-head-requires-in-loop-next g c =
    let inv = c.loop-next.invariant in
    let at = c.requires.at in
    let words = c.copy_words-next.ensures in
    let two = c.load_archived-archived-in-loop-next.ensures in
    record {
      at = (
        two.stays.0 ∙ words.stays.0 ∙ inv.0 ∙ at.0,
        ap (λ z. z.0.core.live) two.tells.becomes ∙ ap (λ z. z.core.live) words.reads.only.rest
            ∙ live_on c.args.seat.now.me.0 c.loop-next.seat.me.0 inv.4.ahead.on at.1,
      );
    }

pub load_durable-requires : goal.load_durable-requires
load_durable-requires g c =
    let inv = c.loop-next.invariant in
    let at = c.requires.at in
    let words = c.copy_words-next.ensures in
    let two = c.load_archived-archived-in-loop-next.ensures in
    let three = c.load_head-head-in-loop-next.ensures in
    record {
      at = (
        three.stays.0 ∙ two.stays.0 ∙ words.stays.0 ∙ inv.0 ∙ at.0,
        ap (λ z. z.0.core.live) three.tells.becomes ∙ ap (λ z. z.0.core.live) two.tells.becomes ∙ ap (λ z. z.core.live) words.reads.only.rest
            ∙ live_on c.args.seat.now.me.0 c.loop-next.seat.me.0 inv.4.ahead.on at.1,
      );
    }

pub loop-next-smaller : goal.loop-next-smaller
loop-next-smaller g c =
    let inv = c.loop-next.invariant in
    let f = frame_of c.args.ring.now.table.shared.key in
    let slots = c.args.ring.now.slots in
    let slots_is = c.args.ring.now.slots_is in
    let from = c.min-from.result in
    let d = c.args.seat.now.me.0 in
    let m0 = c.loop-next.seat.me in
    let words = c.copy_words-next in
    let m1 = words.new.seat.me in
    let two = c.load_archived-archived-in-loop-next in
    let m2 = two.new.seat.me in
    let three = c.load_head-head-in-loop-next in
    let m3 = three.new.seat.me in
    let four = c.load_durable in
    let m4 = four.new.seat.me in
    let buf = words.new.buf in
    let next = c.loop-next.next in
    let q = words.result in
    let n = four.result in
    let r : Reads f.slots next (min m0.0.core.head (from + f.slots)) m0.0 m1.0 buf q =
    read_as slots f.slots from c.min.result next q c.loop-next.head m0.0 m1.0 buf slots_is inv.5 c.min.ensures words.ensures.reads
    in
    let archived2 : m2.0.core.archived ≡ two.result = ap (λ z. z.0.core.archived) two.ensures.tells.becomes in
    let past = c.if-archived-next.false in
    let within = c.if-limit-archived.false in
    let before = r.only.archived in
    let rises = two.ensures.tells.front.known_to in
    let passed2 : m2.0.told.passed ≡ m1.0.told.passed = ap (λ z. z.0.told.passed) two.ensures.tells.becomes in
    let passed3 : m3.0.told.passed ≡ m2.0.told.passed = ap (λ z. z.0.told.passed) three.ensures.tells.becomes in
    let one = two.ensures.tells.front.passed_to in
    let other = four.ensures.tells.front.passed_to in
    let onward = r.onward in
    let archived3 : m3.0.core.archived ≡ m2.0.core.archived = ap (λ z. z.0.core.archived) three.ensures.tells.becomes in
    let archived4 : m4.0.core.archived ≡ m3.0.core.archived = ap (λ z. z.0.core.archived) four.ensures.tells.becomes in
    let next_is : c.max-next.result ≡ max q (min two.result n) = c.max-next.ensures ∙ ap (max q) c.min-released.ensures in
    let either = strides f.slots from m0.0 m1.0 buf next q two.result inv.4.ahead.at r (omega arith) (omega arith) in
    let less = shrinks (from + slots) m0.0.core.archived next q two.result n m1.0.told.passed (omega arith) onward (omega arith) (omega arith) one (omega arith)
    either in
    omega arith

pub loop-next-preserved : goal.loop-next-preserved
loop-next-preserved g c =
    let inv = c.loop-next.invariant in
    let f = frame_of c.args.ring.now.table.shared.key in
    let slots = c.args.ring.now.slots in
    let slots_is = c.args.ring.now.slots_is in
    let from = c.min-from.result in
    let d = c.args.seat.now.me.0 in
    let m0 = c.loop-next.seat.me in
    let words = c.copy_words-next in
    let m1 = words.new.seat.me in
    let two = c.load_archived-archived-in-loop-next in
    let m2 = two.new.seat.me in
    let three = c.load_head-head-in-loop-next in
    let m3 = three.new.seat.me in
    let four = c.load_durable in
    let m4 = four.new.seat.me in
    let buf = words.new.buf in
    let next = c.loop-next.next in
    let q = words.result in
    let n = four.result in
    let r : Reads f.slots next (min m0.0.core.head (from + f.slots)) m0.0 m1.0 buf q =
    read_as slots f.slots from c.min.result next q c.loop-next.head m0.0 m1.0 buf slots_is inv.5 c.min.ensures words.ensures.reads
    in
    let t : Turned f.slots from d m2.0 buf q = turned g.T.Part.state_of f from d buf next q two.result m0 m1 m2 inv.4.ahead r two.ensures.tells in
    let archived2 : m2.0.core.archived ≡ two.result = ap (λ z. z.0.core.archived) two.ensures.tells.becomes in
    let past = c.if-archived-next.false in
    let within = c.if-limit-archived.false in
    let on = turns_on f from d buf q m2 m3 m4 three.result n (record { turned = t; past = omega arith; within = omega arith }) three.ensures.tells
    four.ensures.tells in
    let next_is : c.max-next.result ≡ max q (min m2.0.core.archived n) = c.max-next.ensures
    ∙ ap (max q) (c.min-released.ensures ∙ ap (λ k. min k n) (sym archived2)) in (
      four.ensures.stays.0 ∙ three.ensures.stays.0 ∙ two.ensures.stays.0 ∙ words.ensures.stays.0 ∙ inv.0,
      four.ensures.stays.1 ∙ three.ensures.stays.1 ∙ two.ensures.stays.1 ∙ words.ensures.stays.1 ∙ inv.1,
      ap (λ z. z.1) four.ensures.tells.becomes ∙ ap (λ z. z.1) three.ensures.tells.becomes ∙ ap (λ z. z.1) two.ensures.tells.becomes ∙ words.ensures.hand
          ∙ inv.2,
      words.ensures.long ∙ inv.3,
      subst (λ (k : ℕ). Copying f.slots from d m4.0 buf k) (sym next_is) on,
      sym (ap (λ z. z.0.core.head) four.ensures.tells.becomes ∙ ap (λ z. z.0.core.head) three.ensures.tells.becomes),
      goes_then _ m3.0 m4.0
          (goes_then _ m2.0 m3.0 (goes_to_front g.T.Part.state_of f m1 m2 two.result _ m0.0 inv.6 r.only two.ensures.tells)
          (goes_head f m2 m3 three.result three.ensures.tells))
          (goes_durable f m3 m4 n four.ensures.tells),
      three.ensures.tells.small,
    )

pub load_ending-durable-requires-clause-at : goal.load_ending-durable-requires-clause-at
load_ending-durable-requires-clause-at g c =
    let inv = c.loop-next.invariant in
    let at = c.requires.at in
    let words = c.copy_words-next.ensures in
    let two = c.load_archived-archived-in-loop-next.ensures in (
      two.stays.0 ∙ words.stays.0 ∙ inv.0 ∙ at.0,
      ap (λ z. z.0.core.live) two.tells.becomes ∙ ap (λ z. z.core.live) words.reads.only.rest
          ∙ live_on c.args.seat.now.me.0 c.loop-next.seat.me.0 inv.4.ahead.on at.1,
    )

pub load_ending-durable-requires-clause-copied : goal.load_ending-durable-requires-clause-copied
load_ending-durable-requires-clause-copied g c =
    let inv = c.loop-next.invariant in
    let f = frame_of c.args.ring.now.table.shared.key in
    let slots = c.args.ring.now.slots in
    let slots_is = c.args.ring.now.slots_is in
    let from = c.min-from.result in
    let d = c.args.seat.now.me.0 in
    let m0 = c.loop-next.seat.me in
    let words = c.copy_words-next in
    let m1 = words.new.seat.me in
    let two = c.load_archived-archived-in-loop-next in
    let m2 = two.new.seat.me in
    let buf = words.new.buf in
    let next = c.loop-next.next in
    let q = words.result in
    let r : Reads f.slots next (min m0.0.core.head (from + f.slots)) m0.0 m1.0 buf q =
    read_as slots f.slots from c.min.result next q c.loop-next.head m0.0 m1.0 buf slots_is inv.5 c.min.ensures words.ensures.reads
    in
    let t : Turned f.slots from d m2.0 buf q = turned g.T.Part.state_of f from d buf next q two.result m0 m1 m2 inv.4.ahead r two.ensures.tells in
    let archived2 : m2.0.core.archived ≡ two.result = ap (λ z. z.0.core.archived) two.ensures.tells.becomes in
    subst (λ (k : ℕ). CanEnd k m2.0 c.max-end.result) (sym slots_is)
    (can_end f.slots from d m2.0 buf q c.max-end.result t (c.max-end.ensures ∙ ap (max q) (sym archived2)))

pub returns-clause-stays : goal.returns-clause-stays
returns-clause-stays g c =
    let inv = c.loop-next.invariant in
    let words = c.copy_words-next.ensures in
    let two = c.load_archived-archived-in-loop-next.ensures in
    let last = c.load_ending-durable.ensures in (
      last.stays.0 ∙ two.stays.0 ∙ words.stays.0 ∙ inv.0,
      last.stays.1 ∙ two.stays.1 ∙ words.stays.1 ∙ inv.1,
    )

pub returns-clause-copies : goal.returns-clause-copies
returns-clause-copies g c =
    let inv = c.loop-next.invariant in
    let f = frame_of c.args.ring.now.table.shared.key in
    let slots = c.args.ring.now.slots in
    let slots_is = c.args.ring.now.slots_is in
    let from = c.min-from.result in
    let d = c.args.seat.now.me.0 in
    let m0 = c.loop-next.seat.me in
    let words = c.copy_words-next in
    let m1 = words.new.seat.me in
    let two = c.load_archived-archived-in-loop-next in
    let m2 = two.new.seat.me in
    let buf = words.new.buf in
    let next = c.loop-next.next in
    let q = words.result in
    let r : Reads f.slots next (min m0.0.core.head (from + f.slots)) m0.0 m1.0 buf q =
    read_as slots f.slots from c.min.result next q c.loop-next.head m0.0 m1.0 buf slots_is inv.5 c.min.ensures words.ensures.reads
    in
    let t : Turned f.slots from d m2.0 buf q = turned g.T.Part.state_of f from d buf next q two.result m0 m1 m2 inv.4.ahead r two.ensures.tells in
    let archived2 : m2.0.core.archived ≡ two.result = ap (λ z. z.0.core.archived) two.ensures.tells.becomes in
    let last = c.load_ending-durable in
    let m3 = last.new.seat.me in
    let l = last.ensures.tells in
    let copied : Copied = record { archived = two.result; durable = last.result; end = c.max-end.result; stop = c.stop_at.result } in
    let head2 : c.loop-next.head ≡ m2.0.core.head = inv.5 ∙ sym r.only.head ∙ sym (ap (λ z. z.0.core.head) two.ensures.tells.becomes) in
    let head3 : m3.0.core.head ≡ m2.0.core.head = ap (λ z. z.0.core.head) l.becomes in
    let either : (copied.archived ≤ q) ⊎ (from + f.slots ≤ copied.archived) =
    elim c.then-archived-next.branch [
      | then-archived-next-via-then-archived-next w ↦ (let within = w.if-archived-next.true in inl (omega arith))
      | then-archived-next-via-else-archived-next+then-limit-archived w ↦ (let over = w.if-limit-archived.true in inr (omega arith))
    ]
    in
    let stops2 : StopsFor copied.end m2.0.core.head from (from + f.slots) copied.stop =
    subst (λ (h : ℕ). StopsFor copied.end h from (from + f.slots) copied.stop) head2
    (subst (λ (k : ℕ). StopsFor copied.end c.loop-next.head from (from + k) copied.stop) slots_is c.stop_at.ensures)
    in
    let stops3 : StopsFor copied.end m3.0.core.head from (from + f.slots) copied.stop =
    subst (λ (h : ℕ). StopsFor copied.end h from (from + f.slots) copied.stop) (sym head3) stops2
    in
    let onward = t.lap.onward in
    let known = l.front.known_to in
    let end = c.max-end.ensures in
    let words_within = t.at.within in
    let head_small = inv.7 in
    let front_small = two.ensures.tells.front.small in
    let small : copied.end < 2 ^ 32 = omega arith in
    let first = c.load_head in
    let archived = c.load_archived-archived in
    let again = c.load_head-head in
    let durable = c.load_durable-first_durable in
    record {
      released = from;
      begins = record {
        archived = archived.result;
        durable = durable.result;
        begun = durable.new.seat.me;
        loads =
            record {
              after_mark = archived.new.seat.me;
              again = again.result;
              after_again = again.new.seat.me;
              mark =
                  record {
                    head = first.result;
                    between = first.new.seat.me;
                    length_is = first.ensures.tells;
                    archived_is = archived.ensures.tells;
                  };
              still = again.ensures.tells;
              durable_is = durable.ensures.tells;
            };
        lesser = c.min-from.ensures;
        on = goes_then _ m2.0 m3.0 (goes_to_front g.T.Part.state_of f m1 m2 two.result _ m0.0 inv.6 r.only two.ensures.tells)
            (goes_ending f copied.end m2 m3 copied.durable l);
      };
      on = goes_then d m2.0 m3.0 t.on (goes_ending f copied.end m2 m3 copied.durable l);
      hand = ap (λ z. z.1) l.becomes ∙ ap (λ z. z.1) two.ensures.tells.becomes ∙ words.ensures.hand ∙ inv.2;
      fronts =
          fronts g.T.Part.state_of f d m1 m2 m3 copied q (goes_then d m0.0 m1.0 inv.4.ahead.on (goes_reading m0.0 m1.0 r.only)) two.ensures.tells l end;
      told = ends f from d buf q m2 m3 copied t l (sym archived2) end either stops2 small;
      stop =
          stops_so f.slots from d m3.0 copied copied.stop stops3 t.lap.first (omega arith)
          (λ below.
          let at_q : q ≡ copied.end =
          ⊎_elim (λ (within : copied.archived ≤ q). omega arith) (λ (over : from + f.slots ≤ copied.archived). absurd (omega arith)) either
          in
          subst (EndsAt f.slots from m3.0) at_q (ends_still f copied.end from m2 m3 copied.durable q l t.at.ends));
    }
