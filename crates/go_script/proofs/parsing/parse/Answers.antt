-- Each line is read as the grammar says.
use Rattle.std.proofs.Common.{sym}
use Rattle.go_text.specs.Word.{words}
use Rattle.go_script.specs.Commands.{commands_of}
use Rattle.go_script.proofs.GrammarLemmas.{line_of-finds}
use Rattle.go_script.proofs.ReadingLemmas.{bytes_of, SoFar_fault, SoFar_skipped, SoFar_command}
use Rattle.go_script.proofs.parsing.parse.Goals as goal

pub returns-in-Err-Fault-clause-exact : goal.returns-in-Err-Fault-clause-exact
returns-in-Err-Fault-clause-exact c =
    let read = c.in-Err-Fault.ensures.exact (commands_of c.loop-line.script) c.loop-line.invariant.tells in
    rw c.in-Err-Fault.field-0-is
    (SoFar_fault c.args.v c.args.text.now c.loop-line.places c.loop-line.script c.loop-line.number c.loop-line.from c.in-Some.line c.in-Err-Fault.kind
    c.loop-line.invariant c.in-Some.ensures.splits (rw c.in-Err-Fault.field-0-is at read))

pub loop-line-preserved-in-Ok-None : goal.loop-line-preserved-in-Ok-None
loop-line-preserved-in-Ok-None c =
    let read = c.in-Ok-None.ensures.exact (commands_of c.loop-line.script) c.loop-line.invariant.tells in
    SoFar_skipped c.args.v c.args.text.now c.loop-line.places c.loop-line.script c.loop-line.number c.loop-line.from c.in-Some.line
    c.loop-line.invariant c.in-Some.ensures.splits (rw c.in-Ok-None.field-0-is at read)

pub loop-line-preserved : goal.loop-line-preserved
loop-line-preserved c =
    let tells = c.loop-line.invariant.tells in
    let read = c.in-Ok-Some.ensures.exact (commands_of c.loop-line.script) tells in
    let right = rw c.in-Ok-Some.field-0-is at c.in-Ok-Some.ensures.right in
    rw c.in_ok-push-in-Ok-Some.ensures.ok
    (SoFar_command c.args.v c.args.text.now c.loop-line.places c.take.new.self
    c.loop-line.script c.loop-line.number c.loop-line.from c.in-Some.line c.in-Ok-Some.command
    c.loop-line.invariant c.in-Some.ensures.splits
    (rw c.in-Ok-Some.field-0-is at read) right.below
    (c.take.ensures (commands_of c.loop-line.script) c.in-Ok-Some.command tells (sym c.use_of.ensures)))

pub push-requires : goal.push-requires
push-requires c =
    let read = c.in-Ok-Some.ensures.exact (commands_of c.loop-line.script) c.loop-line.invariant.tells in
    let right = rw c.in-Ok-Some.field-0-is at c.in-Ok-Some.ensures.right in
    record {
      names = right.names;
      ranges = right.ranges;
      finds = line_of-finds c.args.v (commands_of c.loop-line.script) (words (bytes_of c.args.text.now c.in-Some.line)) c.in-Ok-Some.command
          (rw c.in-Ok-Some.field-0-is at read);
    }
