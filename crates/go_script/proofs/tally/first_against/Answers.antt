-- A script is judged command by command.
use Rattle.std.proofs.Common.{◌+◌, ◌∙◌, sym, ap, arith, Option, ℕ}
use Rattle.go_script.specs.Commands.{commands_of}
use Rattle.go_script.specs.Walked.{asks_above}
use Rattle.go_script.proofs.ScriptLemmas.{length-commands_of}
use Rattle.go_script.proofs.UntilLemmas.{JudgedTo_start, JudgedTo_next, JudgedTo_all, JudgedTo_exceeds}
use Rattle.go_script.proofs.tally.first_against.Goals as goal

pub loop-tally-init : goal.loop-tally-init
loop-tally-init c = JudgedTo_start (commands_of c.args.script.now) c.args.files.now c.args.others c.args.begun c.requires.stands

pub returns-then-asks_above : goal.returns-then-asks_above
returns-then-asks_above c =
    let certain = c.loop-tally.tally.puts + c.args.others in
    JudgedTo_exceeds c.args.script.now c.args.files.now c.args.others c.loop-tally.tally c.command.result.now c.line.result c.loop-tally.invariant
    c.command.ensures.command
    (sym (ap (λ (a : Option ℕ). asks_above a certain) c.asked-asked.ensures)
    ∙ sym (ap (λ (n : ℕ). asks_above c.asked-asked.result (n + c.args.others)) c.from.ensures) ∙ sym c.if-asks_above.ensures)
    (omega (arith, c.len.ensures.len, c.loop-tally-test.true)) c.line.ensures

pub loop-tally-preserved : goal.loop-tally-preserved
loop-tally-preserved c =
    let certain = c.loop-tally.tally.puts + c.args.others in
    JudgedTo_next (commands_of c.args.script.now) c.args.files.now c.args.others c.loop-tally.tally c.next-tally.result c.command.result.now
    c.loop-tally.invariant c.command.ensures.command
    (sym (ap (λ (a : Option ℕ). asks_above a certain) c.asked-asked.ensures)
    ∙ sym (ap (λ (n : ℕ). asks_above c.asked-asked.result (n + c.args.others)) c.from.ensures) ∙ sym c.if-asks_above.ensures) c.next-tally.ensures

pub returns : goal.returns
returns c =
    let commands = length-commands_of c.args.script.now in
    JudgedTo_all (commands_of c.args.script.now) c.args.files.now c.args.others c.loop-tally.tally c.loop-tally.invariant
    (omega (arith, commands, c.len.ensures.len, c.loop-tally-test.false))
