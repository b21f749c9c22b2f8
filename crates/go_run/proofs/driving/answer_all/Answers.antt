-- What round after round comes to.
use Rattle.std.proofs.Common.{subst}
use Rattle.go_run.specs.Driving.{Rounds}
use Rattle.go_run.specs.declared.turns.Round.{Round}
use Rattle.go_run.specs.declared.turns.Round.TheVariants.{Goes}
use Rattle.go_run.proofs.TurnParts.{waits_on, go_further}
use Rattle.go_run.proofs.driving.answer_all.Goals as goal

pub loop-store-preserved : goal.loop-store-preserved
loop-store-preserved g c =
    let Came : Round → Type 0 = λ round. Rounds g.D.Disk.device c.args.loads.now round c.loop-store.sessions c.go_round-rounded.new.sessions
    c.loop-store.store c.go_round-rounded.result.store in
    let gone : Came Goes = subst Came c.in-Goes.is c.go_round-rounded.ensures in
    let was = c.loop-store.invariant in
    record {
      can = gone.can;
      onward = go_further c.args.sessions.now c.loop-store.sessions c.go_round-rounded.new.sessions c.args.store c.loop-store.store
          c.go_round-rounded.result.store was.onward gone.onward;
      waits = waits_on c.args.loads.now c.loop-store.sessions c.go_round-rounded.new.sessions gone.onward.aims was.waits;
    }
