-- One session more is made.
use Rattle.std.proofs.Common.{◌≡◌, ◌++◌, ◌+◌, List, ℕ, length, ap, rules, arith, sym, subst}
use Rattle.std.specs.Vec.Iter.{into_iter_items}
use Rattle.std.proofs.lemmas.List.Elements.{All-push}
use Rattle.go_script.specs.declared.step.Step.{Step}
use Rattle.go_script.specs.Places.{IsScript}
use Rattle.go_session.specs.Session.{SessionState}
use Rattle.go_run.specs.Judged.{sessions_of, loads_of, loads_of_all}
use Rattle.go_run.proofs.WorkLemmas.{session_next, loads_left}
use Rattle.go_run.proofs.starting.start_sessions.Goals as goal

pub loop-script-preserved : goal.loop-script-preserved
loop-script-preserved c =
    let steps = c.in-Some.script in
    let rest = into_iter_items c.next.new.self in
    let left = c.loop-script.left.now in
    let done = c.loop-script.sessions.items in
    let all = sessions_of 1 c.args.scripts.items c.args.numbers.now in
    let taken = c.in-Some.ensures.steps.0 in
    let before = subst (λ (s : List (List Step)). done ++ sessions_of (c.loop-script.number + 1) s left ≡ all) taken c.loop-script.invariant.1 in
    let loads = loads_left steps rest left (subst (λ (s : List (List Step)). length left ≡ loads_of_all s) taken c.loop-script.invariant.2) in (
      (tt, tt),
      rw (c.in_ok-push.ensures.items, c.in_ok-new.ensures.unanswered, c.split_at.ensures.front, c.split_at.ensures.back, c.loads_of.ensures)
          (session_next (c.loop-script.number + 1) done steps rest left all before),
      rw (c.split_at.ensures.back, c.loads_of.ensures) loads.2,
      omega (arith, c.loop-script.invariant.3, ap (λ (s : List (List Step)). length s) taken),
      rw c.in_ok-push.ensures.items
          (All-push (λ (s : SessionState). IsScript s.commands) done c.in_ok-new.field-0 c.loop-script.invariant.4 c.in_ok-new.ensures.script),
    )
