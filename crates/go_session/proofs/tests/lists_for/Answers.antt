-- The numbers of the lists.
use Rattle.std.proofs.Common.{◌≡◌, ℕ, List, length, take, ap, sym, ◌∙◌, arith}
use Rattle.std.proofs.lemmas.List.{length-map, take_all}
use Rattle.go_script.specs.Commands.{commands_of}
use Rattle.go_script.specs.Until.{loads_in}
use Rattle.go_script.specs.declared.command.Command.{Command}
use Rattle.go_script.specs.declared.step.Step.{Step}
use Rattle.go_session.proofs.TestLemmas.{numbers_more, numbers_same}
use Rattle.go_session.proofs.tests.lists_for.Goals.{then-is_load+in_ok-push_next, else-is_load}
use Rattle.go_session.proofs.tests.lists_for.Goals as goal

pub loop-i-preserved : goal.loop-i-preserved
loop-i-preserved g c =
    elim c.if-is_load.branch [
      | then-is_load+in_ok-push_next w ↦
          rw w.lists-is (numbers_more (commands_of c.args.script.now) c.loop-i.i w.in_ok-push_next.ensures.0 c.args.loads c.command.result.now
          c.loop-i.lists.items w.push_next.new.lists.items c.command.ensures.command (sym c.is_load.ensures ∙ w.if-is_load.true)
          w.in_ok-push_next.ensures.1 w.in_ok-push_next.ensures.2 c.loop-i.invariant)
      | else-is_load w ↦
          rw w.lists-is (numbers_same (commands_of c.args.script.now) c.loop-i.i c.args.loads c.command.result.now c.loop-i.lists.items
          c.command.ensures.command (sym c.is_load.ensures ∙ w.if-is_load.false) c.loop-i.invariant)
    ]

pub returns-clause-all : goal.returns-clause-all
returns-clause-all g c =
    let commands = commands_of c.args.script.now in
    let same : length commands ≡ length c.args.script.now = length-map c.args.script.now (λ (s : Step). s.command) in
    c.loop-i.invariant.0
    ∙ ap (λ (l : List Command). loads_in l) (take_all c.loop-i.i commands (omega (arith, same, c.len-i-end.ensures.len, c.loop-i-test.false)))
