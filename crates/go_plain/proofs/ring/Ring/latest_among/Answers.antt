-- The way back along a chain, by the lemmas on one step.
use Rattle.std.proofs.Common.{◌≡◌, ◌-◌, ◌<◌, ◌∙◌, get_or, take, false, arith, subst}
use Rattle.std.proofs.lemmas.List.{get_or_read}
use Rattle.go_plain.specs.Ring.{RingState, latest_of}
use Rattle.go_plain.specs.Skips.{no_skip}
use Rattle.go_plain.proofs.ChainLemmas.{latest_of-shorter}
use Rattle.go_plain.proofs.KeptLemmas.{StepsBack, StepsPast, step_back, step_past}
use Rattle.go_plain.proofs.ring.Ring.latest_among.Goals as goal
use Rattle.go_plain.proofs.ring.Ring.latest_among.Goals.{In-loop-number}

-- in the loop the chain steps back, or past a mark
step : (c : In-loop-number) →
    StepsBack c.self.inside.entries.items c.self.inside.prior.items c.args.v c.loop-number.slot c.loop-number.number (record { del = false; src = 0; dst = 0 })
step c =
    step_back c.self.inside c.args.self.now c.self.view_is c.self.invariant c.args.v c.loop-number.slot c.loop-number.number
    (record { del = false; src = 0; dst = 0 }) c.loop-number.invariant.within (omega arith) c.loop-number.invariant.number

past : (c : In-loop-number) → StepsPast c.self.inside.entries.items c.self.inside.skips.items c.args.v c.loop-number.slot c.loop-number.number
past c =
    step_past c.self.inside c.args.self.now c.self.view_is c.self.invariant c.args.v c.loop-number.slot c.loop-number.number
    (record { del = false; src = 0; dst = 0 }) c.loop-number.invariant.within (omega arith) c.loop-number.invariant.number

pub index-skip-requires : goal.index-skip-requires
index-skip-requires c =
    let on = past (goal.at.index-skip-requires c).In-loop-number in
    omega (arith, on.slot)

pub loop-number-smaller-then-count-skip : goal.loop-number-smaller-then-count-skip
loop-number-smaller-then-count-skip c =
    let on = past (goal.at.loop-number-smaller-then-count-skip c).In-loop-number in
    let read : c.index-skip.result.now ≡ get_or c.self.inside.skips.items (c.loop-number.number - 1) no_skip =
    get_or_read _ _ _ on.slot c.index-skip.ensures no_skip in
    rw read on.falls

pub loop-number-preserved-then-count-skip : goal.loop-number-preserved-then-count-skip
loop-number-preserved-then-count-skip c =
    let on = past (goal.at.loop-number-preserved-then-count-skip c).In-loop-number in
    let read : c.index-skip.result.now ≡ get_or c.self.inside.skips.items (c.loop-number.number - 1) no_skip =
    get_or_read _ _ _ on.slot c.index-skip.ensures no_skip in
    let nearer : c.index-skip.result.now.mark < c.loop-number.slot = rw read on.nearer in
    let next : c.index-skip.result.now.latest ≡ latest_of c.args.v (take c.index-skip.result.now.mark c.self.inside.entries.items) = rw read on.next in
    record {
      ahead = omega arith;
      within = omega (arith, nearer, c.loop-number.invariant.within);
      number = subst (λ (r : RingState). c.index-skip.result.now.latest
          ≡ latest_of c.args.v (take c.index-skip.result.now.mark r.entries)) c.self.view_is next;
    }

pub index-requires-else-count-skip : goal.index-requires-else-count-skip
index-requires-else-count-skip c =
    let back = step (goal.at.index-requires-else-count-skip c).In-loop-number in
    omega (arith, back.link)

pub loop-number-smaller : goal.loop-number-smaller
loop-number-smaller c =
    let back = step (goal.at.loop-number-smaller c).In-loop-number in
    let read : c.index-else-count-skip.result.now ≡ get_or c.self.inside.prior.items (c.loop-number.number - 1) 0 =
    get_or_read _ _ _ back.link c.index-else-count-skip.ensures 0 in
    omega (arith, read, back.falls)

pub loop-number-preserved : goal.loop-number-preserved
loop-number-preserved c =
    let back = step (goal.at.loop-number-preserved c).In-loop-number in
    let read : c.index-else-count-skip.result.now ≡ get_or c.self.inside.prior.items (c.loop-number.number - 1) 0 =
    get_or_read _ _ _ back.link c.index-else-count-skip.ensures 0 in
    record {
      ahead = omega arith;
      within = omega (arith, back.at.before, c.loop-number.invariant.within);
      number = subst (λ (r : RingState). c.index-else-count-skip.result.now
          ≡ latest_of c.args.v (take (c.loop-number.number - 1) r.entries)) c.self.view_is (read ∙ back.next);
    }

pub returns : goal.returns
returns c = latest_of-shorter c.args.v c.args.count c.loop-number.slot c.loop-number.number c.args.self.now.entries
    c.loop-number.invariant.ahead c.loop-number.invariant.number (omega arith)
