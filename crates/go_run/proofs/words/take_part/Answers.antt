-- The steps of reading words.
use Rattle.std.proofs.Common.{◌≡◌, ◌<◌, List, [], ◌∷◌, length, ℕ, refl, sym, ap, subst, arith, ◌∙◌}
use Rattle.go_run.specs.Words.{chosen, named, has_dash}
use Rattle.go_run.specs.Found.{kept_of}
use Rattle.go_run.proofs.WordLemmas.{begins, begin_with_file, begin_with_pair, begin_with_choice, no_value_behind, no_part, no_words_left, Begins}
use Rattle.go_run.proofs.FoundLemmas.{reads_part, reads_no_part, reads_none, steps_none}
use Rattle.go_run.proofs.PutLemmas.{put_few}
use Rattle.go_run.proofs.words.take_part.Goals as goal

pub returns-in_err-with_file-in-File : goal.returns-in_err-with_file-in-File
returns-in_err-with_file-in-File c =
    let w = c.args.word.now in
    let r = c.args.rest.now in
    let begin = begin_with_file w r (ap has_dash (sym c.as_text.ensures) ∙ c.in-File.ensures) in
    steps_none (kept_of c.args.found) (w ∷ r) c.from_residual.result c.from_residual.ensures
    (reads_no_part (kept_of c.args.found) w r r (named w) begin (sym c.in_err-with_file-in-File.ensures))

pub returns-in_ok-with_file-in-File : goal.returns-in_ok-with_file-in-File
returns-in_ok-with_file-in-File c =
    let w = c.args.word.now in
    let r = c.args.rest.now in
    let begin = begin_with_file w r (ap has_dash (sym c.as_text.ensures) ∙ c.in-File.ensures) in (
      reads_part (kept_of c.args.found) w r r (named w) begin (kept_of c.in_ok-with_file-in-File.field-0) (sym c.in_ok-with_file-in-File.ensures),
      omega arith,
      put_few (kept_of c.args.found) (named w) (kept_of c.in_ok-with_file-in-File.field-0) (sym c.in_ok-with_file-in-File.ensures),
    )

pub returns-in_err-value-in-Name : goal.returns-in_err-value-in-Name
returns-in_err-value-in-Name c =
    let w = c.args.word.now in
    let r = c.args.rest.now in
    let none = no_words_left r c.in_err-value-in-Name.ensures.cases in
    let no_value = no_value_behind c.in-Name.setting w (sym c.as_text.ensures ∙ c.in-Name.ensures) in
    steps_none (kept_of c.args.found) (w ∷ r) c.from_residual-in_err-value-in-Name.result c.from_residual-in_err-value-in-Name.ensures
    (reads_none (kept_of c.args.found) w r (λ other others first.
    no_value other others first.may (subst (λ (l : List (List ℕ)). Begins other w l others) none (begins other w r others first))))

pub returns-in_err-with-in-Name : goal.returns-in_err-with-in-Name
returns-in_err-with-in-Name c =
    let w = c.args.word.now in
    let r = c.args.rest.now in
    let s = c.in-Name.setting in
    let v = c.as_text-in-Name.result.now in
    let left = c.in_ok-value-in-Name.behind.now in
    let two = c.in_ok-value-in-Name.ensures.cases.0 ∙ ap (λ (x : List ℕ). x ∷ left) (sym c.as_text-in-Name.ensures) in
    let begin = begin_with_pair s w v r left (sym c.as_text.ensures ∙ c.in-Name.ensures) two in
    steps_none (kept_of c.args.found) (w ∷ r) c.from_residual-in_err-with-in-Name.result c.from_residual-in_err-with-in-Name.ensures
    (reads_no_part (kept_of c.args.found) w r left (chosen s v) begin (sym c.in_err-with-in-Name.ensures))

pub returns-in_ok-with-in-Name : goal.returns-in_ok-with-in-Name
returns-in_ok-with-in-Name c =
    let w = c.args.word.now in
    let r = c.args.rest.now in
    let s = c.in-Name.setting in
    let v = c.as_text-in-Name.result.now in
    let left = c.in_ok-value-in-Name.behind.now in
    let two = c.in_ok-value-in-Name.ensures.cases.0 ∙ ap (λ (x : List ℕ). x ∷ left) (sym c.as_text-in-Name.ensures) in
    let begin = begin_with_pair s w v r left (sym c.as_text.ensures ∙ c.in-Name.ensures) two in (
      reads_part (kept_of c.args.found) w r left (chosen s v) begin (kept_of c.in_ok-with-in-Name.field-0) (sym c.in_ok-with-in-Name.ensures),
      omega (arith, ap (λ (l : List (List ℕ)). length l) c.in_ok-value-in-Name.ensures.cases.0),
      put_few (kept_of c.args.found) (chosen s v) (kept_of c.in_ok-with-in-Name.field-0) (sym c.in_ok-with-in-Name.ensures),
    )

pub returns-in_err-with-in-Choice : goal.returns-in_err-with-in-Choice
returns-in_err-with-in-Choice c =
    let w = c.args.word.now in
    let r = c.args.rest.now in
    let s = c.in-Choice.setting in
    let v = c.in-Choice.value.now in
    let begin = begin_with_choice s w v r (sym c.as_text.ensures ∙ c.in-Choice.ensures) in
    steps_none (kept_of c.args.found) (w ∷ r) c.from_residual-in_err-with-in-Choice.result c.from_residual-in_err-with-in-Choice.ensures
    (reads_no_part (kept_of c.args.found) w r r (chosen s v) begin (sym c.in_err-with-in-Choice.ensures))

pub returns-in_ok-with-in-Choice : goal.returns-in_ok-with-in-Choice
returns-in_ok-with-in-Choice c =
    let w = c.args.word.now in
    let r = c.args.rest.now in
    let s = c.in-Choice.setting in
    let v = c.in-Choice.value.now in
    let begin = begin_with_choice s w v r (sym c.as_text.ensures ∙ c.in-Choice.ensures) in (
      reads_part (kept_of c.args.found) w r r (chosen s v) begin (kept_of c.in_ok-with-in-Choice.field-0) (sym c.in_ok-with-in-Choice.ensures),
      omega arith,
      put_few (kept_of c.args.found) (chosen s v) (kept_of c.in_ok-with-in-Choice.field-0) (sym c.in_ok-with-in-Choice.ensures),
    )

pub returns-in-Unknown : goal.returns-in-Unknown
returns-in-Unknown c =
    let w = c.args.word.now in
    let r = c.args.rest.now in
    reads_none (kept_of c.args.found) w r (λ other others first.
    no_part w r (ap has_dash (sym c.as_text.ensures) ∙ c.in-Unknown.ensures.0)
    (λ setting is. c.in-Unknown.ensures.1 setting (c.as_text.ensures ∙ is))
    (λ setting value is. c.in-Unknown.ensures.2 setting value (c.as_text.ensures ∙ is)) other others first.may (begins other w r others first))
