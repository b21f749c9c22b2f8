-- The value is that of the digits taken so far, and never above that of all.
use Rattle.std.proofs.Common.{◌+◌, ◌∙◌, arith}
use Rattle.go_text.specs.Number.{value_of}
use Rattle.go_text.proofs.NumberLemmas.{digit_within, value_of_more, value_of-take-le, above_limit}
use Rattle.go_text.proofs.numbers.value_within.Goals as goal

pub returns-in_err-checked_mul : goal.returns-in_err-checked_mul
returns-in_err-checked_mul c =
    let more = value_of_more c.args.digits.now c.loop-digit.digit-index c.requires (omega arith) in
    let most = value_of-take-le c.args.digits.now (c.loop-digit.digit-index + 1) in
    c.from_residual.ensures ∙ above_limit (value_of c.args.digits.now) c.args.limit (omega (arith, c.in_err-checked_mul.ensures))

pub overflow_sub-digit : goal.overflow_sub-digit
overflow_sub-digit c = (digit_within c.args.digits.now c.loop-digit.digit-index c.requires (omega arith)).0

pub returns-in_err-value : goal.returns-in_err-value
returns-in_err-value c =
    let more = value_of_more c.args.digits.now c.loop-digit.digit-index c.requires (omega arith) in
    let most = value_of-take-le c.args.digits.now (c.loop-digit.digit-index + 1) in
    c.from_residual-in_err-value.ensures ∙ above_limit (value_of c.args.digits.now) c.args.limit (omega (
      arith,
      c.in_err-value.ensures,
      c.in_ok-checked_mul.ensures,
    ))

pub loop-digit-preserved : goal.loop-digit-preserved
loop-digit-preserved c =
    let more = value_of_more c.args.digits.now c.loop-digit.digit-index c.requires (omega arith) in
    omega (arith, c.in_ok-value.ensures, c.in_ok-checked_mul.ensures)
