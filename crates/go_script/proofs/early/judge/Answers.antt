-- A script is judged by its own files, beside what the others put.
use Rattle.std.proofs.Common.{◌≡◌, ◌-◌, ◌∙◌, ap, sym, subst, ℕ, MatchResult}
use Rattle.go_script.specs.Commands.{commands_of}
use Rattle.go_script.specs.declared.tally.Tally.{Tally}
use Rattle.go_script.specs.Until.{loads_in}
use Rattle.go_script.specs.Walked.{session_of, NeverExceeds, FirstExceeds}
use Rattle.go_script.proofs.SessionLemmas.{early_puts-left, judged-own}
use Rattle.go_script.proofs.early.judge.Goals as goal

pub returns : goal.returns
returns c =
    let steps = c.args.script.now in
    let left = c.args.left.now in
    let begun = ap (λ (t : Tally). t.puts) c.before_wait-begun.ensures ∙ sym (early_puts-left steps left) in
    let others = ap (λ (n : ℕ). c.args.total - n) (c.from.ensures ∙ begun) in
    let files = (session_of steps left).files in
    subst (λ (n : ℕ). MatchResult c.first_against.result
    (λ loads. (loads ≡ loads_in (commands_of steps)) × NeverExceeds (commands_of steps) files n) (λ line. FirstExceeds steps files n line))
    others (judged-own steps left (c.args.total - c.from.result) c.first_against.result c.first_against.ensures)
