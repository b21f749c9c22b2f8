-- The loop of `entries_in`.
use Rattle.std.proofs.Common.{◌≡◌, ◌+◌, length, take, drop, arith, sym, ap, ◌∙◌, if◌then◌else◌, Bool}
use Rattle.std.proofs.lemmas.List.{length-map}
use Rattle.go_script.specs.Commands.{commands_of, put_by}
use Rattle.go_script.specs.declared.step.Step.{Step}
use Rattle.go_script.specs.Until.{loads_in}
use Rattle.go_session.specs.Asked.{asked_with, entries_given, lists_of}
use Rattle.go_session.proofs.AskedLemmas.{asked_at, length-asked_with, load_there, loads_next}
use Rattle.go_session.proofs.QuotaLemmas.{counts_none, counts_more, counts_all}
use Rattle.go_session.proofs.quota.entries_in.Goals.{then-is_load, else-is_load}
use Rattle.go_session.proofs.quota.entries_in.Goals as goal

pub loop-i-init : goal.loop-i-init
loop-i-init c = (counts_none (asked_with (commands_of c.args.script.now) (lists_of c.args.loads.now c.args.lists.now)) c.args.from, c.requires.loaded)

pub entries_of-requires-clause-there : goal.entries_of-requires-clause-there
entries_of-requires-clause-there c = λ load.
    let there = load_there (commands_of c.args.script.now) c.loop-i.i c.command-command.result.now c.command-command.ensures.command load in
    omega (arith, there, c.loop-i.invariant.1, c.requires.all)

pub loop-i-preserved : goal.loop-i-preserved
loop-i-preserved c =
    let commands = commands_of c.args.script.now in
    let lists = lists_of c.args.loads.now c.args.lists.now in
    let command = c.command-command.result.now in
    let next = loads_next commands c.loop-i.i command c.command-command.ensures.command in
    let so_far = c.loop-i.invariant.1 in (
      counts_more (asked_with commands lists) c.args.from c.loop-i.i c.loop-i.count c.entries_of.result c.saturating_add-count.result
          (record { command = command; entries = entries_given (put_by command) (drop (loads_in (take c.loop-i.i commands)) lists) })
          c.loop-i.invariant.0 (asked_at commands lists c.loop-i.i command c.command-command.ensures.command)
          (c.entries_of.ensures ∙ ap (λ n. length (entries_given (put_by command) (drop n lists))) so_far)
          c.saturating_add-count.ensures,
      elim c.if-is_load.branch [
        | then-is_load w ↦
            let load = sym c.is_load.ensures ∙ w.if-is_load.true in
            w.next-is ∙ ap (λ n. n + 1) so_far ∙ sym (next ∙ ap (λ (b : Bool). loads_in (take c.loop-i.i commands) + (if b then 1 else 0)) load)
        | else-is_load w ↦
            let none = sym c.is_load.ensures ∙ w.if-is_load.false in
            let more = next ∙ ap (λ (b : Bool). loads_in (take c.loop-i.i commands) + (if b then 1 else 0)) none in
            omega (arith, more, so_far, w.next-is)
      ],
    )

pub returns : goal.returns
returns c =
    let commands = commands_of c.args.script.now in
    let lists = lists_of c.args.loads.now c.args.lists.now in
    let long = length-asked_with commands lists in
    let same : length commands ≡ length c.args.script.now = length-map c.args.script.now (λ (s : Step). s.command) in
    counts_all (asked_with commands lists) c.args.from c.loop-i.i c.loop-i.count c.loop-i.invariant.0
    (omega (arith, long, same, c.len-i-end.ensures.len, c.loop-i-test.false))
