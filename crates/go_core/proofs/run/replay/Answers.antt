-- `replay`: the laws of runs, over what was done and answered.
use Rattle.std.proofs.Common.{List, drop, vec_len, sym, subst, arith}
use Rattle.go_core.specs.declared.act.Event.{Event}
use Rattle.go_core.specs.declared.act.Out.{Out}
use Rattle.go_core.specs.Machine.{Machine, Row}
use Rattle.go_core.specs.History.{Run}
use Rattle.go_core.proofs.Assured.{run_copied, tied_sure}
use Rattle.go_core.proofs.Taken.{run_taken}
use Rattle.go_core.proofs.Runs.{replayed_none, replayed_run, replayed_more, run_tied, run_released, run_ordered}
use Rattle.go_core.proofs.run.replay.Goals as goal

-- the run so far, where a step wants memory
run_err : (c : goal.After-from_residual-in_err-out)
    → Run c.args.core.now c.args.events.now (drop (vec_len c.args.outs.now) c.loop-event.outs.items) c.step.new.self
run_err c =
    let n = vec_len c.args.outs.now in
    let run = replayed_run c.args.core.now c.loop-event.core c.args.events.now c.reserve.new.self.items c.loop-event.outs.items c.loop-event.event-index n
    (omega arith) c.loop-event.invariant.0 in
    subst (λ (m : Machine). Run c.args.core.now c.args.events.now (drop n c.loop-event.outs.items) m) (sym c.in_err-out.ensures.err) run

-- the whole run
run_all : (c : goal.After-loop-event) → Run c.args.core.now c.args.events.now (drop (vec_len c.args.outs.now) c.loop-event.outs.items) c.loop-event.core
run_all c =
    let n = vec_len c.args.outs.now in
    replayed_run c.args.core.now c.loop-event.core c.args.events.now c.reserve.new.self.items c.loop-event.outs.items c.loop-event.event-index n
    (omega arith) c.loop-event.invariant.0

pub returns-in_err-out-clause-tied : goal.returns-in_err-out-clause-tied
returns-in_err-out-clause-tied c = λ log tied. run_tied c.args.core.now c.args.events.now _ c.step.new.self log (run_err c) tied

pub returns-in_err-out-clause-released : goal.returns-in_err-out-clause-released
returns-in_err-out-clause-released c = λ log tied. run_released c.args.core.now c.args.events.now _ c.step.new.self log (run_err c) tied

pub returns-in_err-out-clause-ordered : goal.returns-in_err-out-clause-ordered
returns-in_err-out-clause-ordered c = λ log tied. run_ordered c.args.core.now c.args.events.now _ c.step.new.self log (run_err c) tied

pub returns-clause-tied : goal.returns-clause-tied
returns-clause-tied c = λ log tied. run_tied c.args.core.now c.args.events.now _ c.loop-event.core log (run_all c) tied

pub returns-clause-released : goal.returns-clause-released
returns-clause-released c = λ log tied. run_released c.args.core.now c.args.events.now _ c.loop-event.core log (run_all c) tied

pub returns-clause-ordered : goal.returns-clause-ordered
returns-clause-ordered c = λ log tied. run_ordered c.args.core.now c.args.events.now _ c.loop-event.core log (run_all c) tied

pub loop-event-preserved : goal.loop-event-preserved
loop-event-preserved c = (
  replayed_more c.args.core.now c.loop-event.core c.step.new.self c.args.events.now c.reserve.new.self.items c.loop-event.outs.items c.push.new.self.items
      c.loop-event.event-index c.event-item.result c.in_ok-out.out c.loop-event-test.true c.loop-event.invariant.0
      (subst (λ (e : Event). Row c.loop-event.core e.party e.act c.in_ok-out.out c.step.new.self) c.event-item.is c.in_ok-out.ensures.row)
      c.in_ok-push.ensures.items,
  (let grown = c.in_ok-push.ensures.len in let room = c.in_ok-push.ensures.capacity in omega arith),
)

pub returns-in_err-out-clause-taken : goal.returns-in_err-out-clause-taken
returns-in_err-out-clause-taken c = run_taken c.args.core.now c.args.events.now _ c.step.new.self (run_err c)

pub returns-clause-taken : goal.returns-clause-taken
returns-clause-taken c = run_taken c.args.core.now c.args.events.now _ c.loop-event.core (run_all c)

pub returns-in_err-out-clause-copied : goal.returns-in_err-out-clause-copied
returns-in_err-out-clause-copied c = λ log tied. run_copied c.args.core.now c.args.events.now _ c.step.new.self log (run_err c) tied

pub returns-clause-copied : goal.returns-clause-copied
returns-clause-copied c = λ log tied. run_copied c.args.core.now c.args.events.now _ c.loop-event.core log (run_all c) tied

pub returns-in_err-out-clause-sure : goal.returns-in_err-out-clause-sure
returns-in_err-out-clause-sure c = λ log tied i. tied_sure c.step.new.self _ i
    (run_tied c.args.core.now c.args.events.now _ c.step.new.self log (run_err c) tied)

pub returns-clause-sure : goal.returns-clause-sure
returns-clause-sure c = λ log tied i. tied_sure c.loop-event.core _ i (run_tied c.args.core.now c.args.events.now _ c.loop-event.core log (run_all c) tied)

-- no memory for the answers: nothing was done
pub returns-in_err-reserve-clause-sure : goal.returns-in_err-reserve-clause-sure
returns-in_err-reserve-clause-sure c =
    let n = vec_len c.args.outs.now in
    let core = c.args.core.now in
    let es = c.args.events.now in
    let old = c.args.outs.now.items in
    let none : Run core es (drop n old) core = replayed_run core core es old old 0 n (omega arith) (replayed_none core es old) in
    let run : Run core es (drop n c.reserve.new.self.items) core = subst (λ (ys : List Out). Run core es (drop n ys) core) (sym c.reserve.ensures.items) none in
    λ log tied i. tied_sure core _ i (run_tied core es _ core log run tied)
