-- One more command is counted.
use Rattle.std.proofs.Common.{◌∙◌, ap, sym, inl, inr, arith}
use Rattle.go_script.specs.Commands.{commands_of}
use Rattle.go_script.specs.Until.{is_entry, is_listed}
use Rattle.go_script.proofs.ScriptLemmas.{length-commands_of}
use Rattle.go_script.proofs.TallyLemmas.{next_nothing, next_entry, next_listed, load_has_file, puts-most, puts_and_file-most}
use Rattle.go_script.proofs.tally.Tally.next.Goals as goal

pub returns-in-Nothing : goal.returns-in-Nothing
returns-in-Nothing c = elim c.in-Nothing.is [
  | inl is ↦ let put = sym c.puts.ensures ∙ is in
      next_nothing (commands_of c.args.script.now) c.args.files.now c.args.self c.command.result.now c.requires.stands c.command.ensures.command
      (ap is_entry put) (ap is_listed put)
  | inr is ↦ let put = sym c.puts.ensures ∙ is.1 in
      next_nothing (commands_of c.args.script.now) c.args.files.now c.args.self c.command.result.now c.requires.stands c.command.ensures.command
      (ap is_entry put) (ap is_listed put)
]

pub returns-in-Entry : goal.returns-in-Entry
returns-in-Entry c =
    let put = sym c.puts.ensures ∙ c.in-Entry.is in
    next_entry (commands_of c.args.script.now) c.args.files.now c.args.self c.command.result.now c.requires.stands c.command.ensures.command
    (ap is_entry put) (ap is_listed put)

pub returns-in-Listed : goal.returns-in-Listed
returns-in-Listed c =
    let put = sym c.puts.ensures ∙ c.in-Listed.is in
    next_listed (commands_of c.args.script.now) c.args.files.now c.args.self c.command.result.now c.requires.stands c.command.ensures.command
    (ap is_entry put) (ap is_listed put) c.requires.told

pub bounds-files-self : goal.bounds-files-self
bounds-files-self c =
    load_has_file (commands_of c.args.script.now) c.args.files.now c.args.self c.command.result.now c.requires.stands c.command.ensures.command
    (ap is_listed (sym c.puts.ensures ∙ c.in-Listed.is)) c.requires.told

pub overflow_add-result : goal.overflow_add-result
overflow_add-result c =
    let commands = length-commands_of c.args.script.now in
    omega (
      arith,
      c.requires.goes_on,
      c.requires.short,
      c.requires.small,
      puts-most (commands_of c.args.script.now) c.args.files.now c.args.self c.requires.stands (omega (arith, commands, c.requires.goes_on)),
    )

pub overflow_add-result-in-Listed-2 : goal.overflow_add-result-in-Listed-2
overflow_add-result-in-Listed-2 c =
    let commands = length-commands_of c.args.script.now in
    let has_file = load_has_file (commands_of c.args.script.now) c.args.files.now c.args.self c.command.result.now c.requires.stands c.command.ensures.command
    (ap is_listed (sym c.puts.ensures ∙ c.in-Listed.is)) c.requires.told in
    omega (
      arith,
      c.requires.goes_on,
      c.requires.short,
      c.requires.small,
      puts_and_file-most (commands_of c.args.script.now) c.args.files.now c.args.self c.requires.stands (omega (arith, commands, c.requires.goes_on)) has_file,
    )
