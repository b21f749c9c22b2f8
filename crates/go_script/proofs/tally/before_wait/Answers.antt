-- A script is walked to its first command that waits.
use Rattle.std.proofs.Common.{◌∙◌, sym, ap, arith}
use Rattle.std.specs.Prelude.{is_some}
use Rattle.go_script.specs.Commands.{commands_of}
use Rattle.go_script.proofs.ScriptLemmas.{length-commands_of}
use Rattle.go_script.proofs.UntilLemmas.{asked-none, WalksTo_start, WalksTo_next, WalksTo_wait, WalksTo_all}
use Rattle.go_script.proofs.tally.before_wait.Goals as goal

pub loop-tally-init : goal.loop-tally-init
loop-tally-init c =
    let commands = commands_of c.args.script.now in
    WalksTo_start commands c.args.files.now c.start-tally.result (c.start-tally.ensures commands c.args.files.now)

pub returns-then-is_some : goal.returns-then-is_some
returns-then-is_some c =
    WalksTo_wait (commands_of c.args.script.now) c.args.files.now c.loop-tally.tally c.command.result.now c.loop-tally.invariant c.command.ensures.command
    (sym (ap is_some c.asked.ensures) ∙ sym c.if-is_some.ensures)

pub loop-tally-preserved : goal.loop-tally-preserved
loop-tally-preserved c =
    WalksTo_next (commands_of c.args.script.now) c.args.files.now c.loop-tally.tally c.next-tally.result c.command.result.now c.loop-tally.invariant
    c.command.ensures.command (asked-none c.command.result.now (sym (ap is_some c.asked.ensures) ∙ sym c.if-is_some.ensures)) c.next-tally.ensures

pub returns : goal.returns
returns c =
    let commands = length-commands_of c.args.script.now in
    WalksTo_all (commands_of c.args.script.now) c.args.files.now c.loop-tally.tally c.loop-tally.invariant
    (omega (arith, commands, c.len.ensures.len, c.loop-tally-test.false))
