-- The word that is found is the next one.
use Rattle.std.proofs.Common.{◌≡◌, ℕ, ◌+◌, ◌-◌, ◌∙◌, List, length, drop, ap, arith, length-drop}
use Rattle.std.proofs.lemmas.List.{take_rest}
use Rattle.std.specs.List.{position_or_len, prefix_len}
use Rattle.go_text.specs.Word.{is_blank}
use Rattle.go_text.proofs.WordLemmas.{words-blank, next_word_is}
use Rattle.go_text.proofs.word.next_word.Goals as goal

pub returns-then-start-line : goal.returns-then-start-line
returns-then-start-line c =
    let long : length (drop c.args.from c.args.line.now) ≡ length c.args.line.now - c.args.from = length-drop c.args.from c.args.line.now in
    let blanks : c.blanks_in_front.result ≡ prefix_len is_blank (drop c.args.from c.args.line.now) = c.blanks_in_front.ensures.count
    ∙ ap (λ (rest : List ℕ). prefix_len is_blank rest) (take_rest c.args.line.now c.args.from) in
    words-blank (drop c.args.from c.args.line.now) (omega arith)

pub returns : goal.returns
returns c =
    let blanks : c.blanks_in_front.result ≡ prefix_len is_blank (drop c.args.from c.args.line.now) = c.blanks_in_front.ensures.count
    ∙ ap (λ (rest : List ℕ). prefix_len is_blank rest) (take_rest c.args.line.now c.args.from) in
    let long : c.bytes_before_blank.result ≡ position_or_len is_blank (drop (c.args.from + c.blanks_in_front.result) c.args.line.now) =
    c.bytes_before_blank.ensures.count
    ∙ ap (λ (rest : List ℕ). position_or_len is_blank rest) (take_rest c.args.line.now (c.args.from + c.blanks_in_front.result)) in
    next_word_is c.args.line.now c.args.from c.blanks_in_front.result c.bytes_before_blank.result blanks long (omega arith)
