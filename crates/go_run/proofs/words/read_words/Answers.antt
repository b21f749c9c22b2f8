-- What reading the words leads to.
use Rattle.std.proofs.Common.{◌≡◌, ◌∷◌, List, ℕ, Option, Some, None, sym, ap, subst, ◌∙◌}
use Rattle.go_run.specs.declared.wanted.Verb.{Verb}
use Rattle.go_run.specs.Words.{Asked, IsAskedBy}
use Rattle.go_run.specs.Found.{kept_of, asked_in, word_of_verb}
use Rattle.go_run.proofs.AskedLemmas.{asked_some, asked_none, asked_no_verb}
use Rattle.go_run.proofs.words.read_words.Goals as goal

pub returns-in_err-verb-clause-asked : goal.returns-in_err-verb-clause-asked
returns-in_err-verb-clause-asked c =
    subst (λ (a : Option Asked). IsAskedBy c.args.words.now a) (ap asked_in (sym c.from_residual-in_err-verb.ensures))
    (asked_no_verb c.args.words.now c.in_ok-command.others.now c.in_ok-command.command.now c.in_ok-command.ensures.cases.0
    (λ verb is. absurd (let some : None ≡ Some verb = c.in_err-verb.ensures.alone verb is in cc)))

pub returns-in_err-find_all-clause-asked : goal.returns-in_err-find_all-clause-asked
returns-in_err-find_all-clause-asked c =
    let words = c.args.words.now in
    let others = c.in_ok-command.others.now in
    let word : List ℕ = word_of_verb c.in_ok-verb.verb in
    let command : words ≡ word ∷ others = c.in_ok-command.ensures.cases.0 ∙ ap (λ (w : List ℕ). w ∷ others) c.in_ok-verb.ensures.some in
    subst (λ (a : Option Asked). IsAskedBy words a) (ap asked_in (sym c.from_residual-in_err-find_all.ensures))
    (asked_none words others word command c.in_err-find_all.ensures.reads)

pub returns-clause-asked : goal.returns-clause-asked
returns-clause-asked c =
    let words = c.args.words.now in
    let others = c.in_ok-command.others.now in
    let word : List ℕ = word_of_verb c.in_ok-verb.verb in
    let command : words ≡ word ∷ others = c.in_ok-command.ensures.cases.0 ∙ ap (λ (w : List ℕ). w ∷ others) c.in_ok-verb.ensures.some in
    asked_some words others word command (kept_of c.in_ok-find_all.field-0) (asked_in c.wanted_by.result) c.in_ok-find_all.ensures.reads
    c.wanted_by.ensures.settled
