-- The loop of `answered`.
use Rattle.std.proofs.Common.{◌≡◌, ℕ, ◌<◌, List, length, sym, subst, ap, ◌∙◌, arith}
use Rattle.std.specs.Prelude.{All}
use Rattle.go_script.specs.Commands.{commands_of}
use Rattle.go_session.specs.Session.{SessionState}
use Rattle.go_session.proofs.TestLemmas.{begins_listed}
use Rattle.go_session.proofs.tests.answered.Goals as goal

pub loop-init : goal.loop-init
loop-init g c =
    let there = subst (λ (l : List ℕ). All (λ n. n < length c.args.loads.now) l) (sym c.deref.ensures.value) c.in_ok-lists.ensures.within in (
      begins_listed c.in_ok-session.session c.new-store.result (commands_of c.in_ok-script.script) c.deref.result.now c.args.loads.now c.args.vertices
          c.args.ring c.puts-quota.result c.in_ok-session.ensures.unanswered c.new-store.ensures c.in_ok-script.ensures.within
          c.in_ok-session.ensures.script c.assert_within.ensures there (omega (arith, c.puts-quota.ensures)),
      subst (λ (l : List ℕ). All (λ n. n < length c.args.loads.now) l) (sym (ap (λ (s : SessionState). s.lists) c.in_ok-session.ensures.unanswered)) there,
    )

pub step-requires : goal.step-requires
step-requires g c = record { can = c.loop.invariant.0; lists = c.loop.invariant.1 }

pub loop-preserved : goal.loop-preserved
loop-preserved g c =
    let did = c.in-Did.ensures.stepped in (
      did.goes_on,
      subst (λ (l : List ℕ). All (λ n. n < length c.args.loads.now) l) (sym (ap (λ (s : SessionState). s.lists) did.replied)) c.loop.invariant.1,
    )
