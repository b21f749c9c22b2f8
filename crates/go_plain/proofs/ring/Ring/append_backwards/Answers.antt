-- The words along a chain, by the lemmas on one step.
use Rattle.std.proofs.Common.{◌≡◌, ◌-◌, ◌∙◌, ◌++◌, [], List, get_or, map, reverse, take, false, arith, ap, sym, subst}
use Rattle.std.proofs.lemmas.List.{get_or_read}
use Rattle.go_word.specs.declared.edge.Edge.{Edge}
use Rattle.go_word.specs.Log.{entries_from}
use Rattle.go_word.specs.Word.{IsStorable, plain_word}
use Rattle.go_plain.specs.Ring.{RingState, latest_of}
use Rattle.go_plain.proofs.ChainLemmas.{words_back, entries_from-done}
use Rattle.go_plain.proofs.KeptLemmas.{StepsBack, step_back}
use Rattle.go_plain.proofs.ring.Ring.append_backwards.Goals as goal
use Rattle.go_plain.proofs.ring.Ring.append_backwards.Goals.{In-loop-number}

-- in the loop the chain steps back
step : (c : In-loop-number) →
    StepsBack c.self.inside.entries.items c.self.inside.prior.items c.args.v c.loop-number.slot c.loop-number.number (record { del = false; src = 0; dst = 0 })
step c =
    step_back c.self.inside c.args.self.now c.self.view_is c.self.invariant c.args.v c.loop-number.slot c.loop-number.number
    (record { del = false; src = 0; dst = 0 }) c.loop-number.invariant.within (omega arith) c.loop-number.invariant.number

pub index-requires : goal.index-requires
index-requires c =
    let back = step (goal.at.index-requires c).In-loop-number in
    omega (arith, back.slot)

pub plain-requires : goal.plain-requires
plain-requires c =
    let back = step (goal.at.plain-requires c).In-loop-number in
    let entry : c.index.result.now ≡ get_or c.self.inside.entries.items (c.loop-number.number - 1) (record { del = false; src = 0; dst = 0 }) =
    get_or_read _ _ _ back.slot c.index.ensures (record { del = false; src = 0; dst = 0 }) in
    subst IsStorable (sym entry) back.storable

pub index-requires-in-loop-number : goal.index-requires-in-loop-number
index-requires-in-loop-number c =
    let back = step (goal.at.index-requires-in-loop-number c).In-loop-number in
    omega (arith, back.link)

pub loop-number-smaller : goal.loop-number-smaller
loop-number-smaller c =
    let back = step (goal.at.loop-number-smaller c).In-loop-number in
    let read : c.index-in-loop-number.result.now ≡ get_or c.self.inside.prior.items (c.loop-number.number - 1) 0 =
    get_or_read _ _ _ back.link c.index-in-loop-number.ensures 0 in
    omega (arith, read, back.falls)

pub loop-number-preserved : goal.loop-number-preserved
loop-number-preserved c =
    let back = step (goal.at.loop-number-preserved c).In-loop-number in
    let read : c.index-in-loop-number.result.now ≡ get_or c.self.inside.prior.items (c.loop-number.number - 1) 0 =
    get_or_read _ _ _ back.link c.index-in-loop-number.ensures 0 in
    let entry : c.index.result.now ≡ get_or c.self.inside.entries.items (c.loop-number.number - 1) (record { del = false; src = 0; dst = 0 }) =
    get_or_read _ _ _ back.slot c.index.ensures (record { del = false; src = 0; dst = 0 }) in
    let all = map plain_word (entries_from c.args.v (take c.args.count c.args.self.now.entries)) in
    let so_far : map plain_word (entries_from c.args.v (take c.loop-number.slot c.self.inside.entries.items)) ++ reverse c.loop-number.out.items ≡ all =
    subst (λ (r : RingState). map plain_word (entries_from c.args.v (take c.loop-number.slot r.entries)) ++ reverse c.loop-number.out.items
    ≡ all) (sym c.self.view_is) c.loop-number.invariant.gathered in
    let more : map plain_word (entries_from c.args.v (take (c.loop-number.number - 1) c.self.inside.entries.items)) ++ reverse c.push.new.self.items
    ≡ all =
    words_back c.args.v c.loop-number.slot (c.loop-number.number - 1) c.self.inside.entries.items (record { del = false; src = 0; dst = 0 })
    c.loop-number.out.items c.push.new.self.items all c.plain.result back.at c.in_ok-push.ensures.items (c.plain.ensures.exact ∙ ap plain_word entry) so_far in
    record {
      within = omega (arith, back.at.before, c.loop-number.invariant.within);
      number = subst (λ (r : RingState). c.index-in-loop-number.result.now
          ≡ latest_of c.args.v (take (c.loop-number.number - 1) r.entries)) c.self.view_is (read ∙ back.next);
      gathered = subst (λ (r : RingState). map plain_word (entries_from c.args.v (take (c.loop-number.number - 1) r.entries))
          ++ reverse c.push.new.self.items ≡ all) c.self.view_is more;
    }

pub returns : goal.returns
returns c =
    let none : entries_from c.args.v (take c.loop-number.slot c.args.self.now.entries) ≡ [] =
    entries_from-done c.args.v c.loop-number.slot c.loop-number.number c.args.self.now.entries c.loop-number.invariant.number (omega arith) in
    subst (λ (l : List Edge). map plain_word l ++ reverse c.loop-number.out.items
    ≡ map plain_word (entries_from c.args.v (take c.args.count c.args.self.now.entries))) none c.loop-number.invariant.gathered
