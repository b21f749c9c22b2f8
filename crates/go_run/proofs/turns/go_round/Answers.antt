-- What a round comes to.
use Rattle.std.proofs.Common.{◌+◌, ◌<◌, Bool, get_or, set, length, arith, subst, sym}
use Rattle.std.proofs.lemmas.Option.{slice_get-get_or}
use Rattle.go_run.proofs.TurnLemmas.{round_did, round_rested, round_stopped, round_goes, round_last}
use Rattle.go_run.proofs.TurnParts.{rests}
use Rattle.go_run.specs.Driving.{InRound, Rounds, at_turn}
use Rattle.go_run.specs.declared.turns.Round.{Round}
use Rattle.go_run.proofs.turns.go_round.Goals as goal
use Rattle.go_run.proofs.turns.go_round.Goals.{in-Did, in-Waits, then-answered, else-answered}

pub take_turn-turned-requires-clause-can : goal.take_turn-turned-requires-clause-can
take_turn-turned-requires-clause-can g c =
    let within : c.loop-i.i < length c.loop-i.sessions = omega arith in
    c.loop-i.invariant.can.each c.loop-i.i _ (slice_get-get_or c.loop-i.sessions c.loop-i.i c.index-sessions-i.result within)

pub returns-in-Stopped : goal.returns-in-Stopped
returns-in-Stopped g c =
    let within : c.loop-i.i < length c.loop-i.sessions = omega arith in
    let here = slice_get-get_or c.loop-i.sessions c.loop-i.i c.index-sessions-i.result within in
    round_stopped g.D.Disk.device c.args.loads.now c.args.sessions.now c.args.store
    (at_turn c.loop-i.sessions c.loop-i.store c.loop-i.i c.loop-i.answered) c.take_turn-turned.result.step
    (get_or c.loop-i.sessions c.loop-i.i c.index-sessions-i.result) c.take_turn-turned.new.session c.take_turn-turned.result.store here
    c.take_turn-turned.ensures c.loop-i.invariant c.in-Stopped.why c.in-Stopped.is

pub loop-i-preserved : goal.loop-i-preserved
loop-i-preserved g c =
    let within : c.loop-i.i < length c.loop-i.sessions = omega arith in
    let here = slice_get-get_or c.loop-i.sessions c.loop-i.i c.index-sessions-i.result within in
    let now = at_turn c.loop-i.sessions c.loop-i.store c.loop-i.i c.loop-i.answered in
    let Now : Bool → Type 0 = λ answered. InRound g.D.Disk.device c.args.loads.now c.args.sessions.now c.args.store
    (at_turn (set c.loop-i.sessions c.loop-i.i c.take_turn-turned.new.session) c.take_turn-turned.result.store (c.loop-i.i + 1) answered) in
    elim c.match-turned.branch [
      | in-Did w ↦
          subst Now (sym w.answered-is)
          (round_did g.D.Disk.device c.args.loads.now c.args.sessions.now c.args.store now c.take_turn-turned.result.step
          (get_or c.loop-i.sessions c.loop-i.i c.index-sessions-i.result) c.take_turn-turned.new.session c.take_turn-turned.result.store here
          c.take_turn-turned.ensures c.loop-i.invariant w.in-Did.is)
      | in-Waits w ↦
          subst Now (sym w.answered-is)
          (round_rested g.D.Disk.device c.args.loads.now c.args.sessions.now c.args.store now c.take_turn-turned.result.step
          (get_or c.loop-i.sessions c.loop-i.i c.index-sessions-i.result) c.take_turn-turned.new.session c.take_turn-turned.result.store here
          c.take_turn-turned.ensures c.loop-i.invariant (rests c.take_turn-turned.result.step w.in-Waits.is))
    ]

pub returns : goal.returns
returns g c =
    let Came : Round → Type 0 = λ round. Rounds g.D.Disk.device c.args.loads.now round c.args.sessions.now c.loop-i.sessions c.args.store c.loop-i.store in
    elim c.if-answered.branch [
      | then-answered w ↦
          subst Came (sym w.result-is)
          (round_goes g.D.Disk.device c.args.loads.now c.args.sessions.now c.loop-i.sessions c.args.store c.loop-i.store c.loop-i.answered c.loop-i.i
          c.loop-i.invariant w.if-answered.true)
      | else-answered w ↦
          subst Came (sym w.result-is)
          (round_last g.D.Disk.device c.args.loads.now c.args.sessions.now c.loop-i.sessions c.args.store c.loop-i.store c.loop-i.answered c.loop-i.i
          c.requires.waits c.loop-i.invariant w.if-answered.false (omega arith))
    ]
