-- Digit by digit.
use Rattle.std.proofs.Common.{◌≡◌, true, ℕ, get_or, sym, arith}
use Rattle.std.specs.Char.{is_ascii_digit}
use Rattle.go_text.proofs.NumberLemmas.{front_more, digit_more, digit_small, small_more, small_fits, faulty_at}
use Rattle.go_text.proofs.numbers.short_number.Goals as goal

pub returns-then-not-is_ascii_digit : goal.returns-then-not-is_ascii_digit
returns-then-not-is_ascii_digit c =
    faulty_at c.args.limit c.args.bytes.now c.loop-at.at c.loop-at-test.true c.loop-at.invariant.front (sym c.if-not-is_ascii_digit.ensures.value)

pub overflow_mul-value : goal.overflow_mul-value
overflow_mul-value c =
    let fits = small_fits c.loop-at.at c.loop-at.value (omega arith) c.loop-at.invariant.small in omega arith

pub overflow_add-value : goal.overflow_add-value
overflow_add-value c =
    let fits = small_fits c.loop-at.at c.loop-at.value (omega arith) c.loop-at.invariant.small in
    let nine = digit_small (get_or c.args.bytes.now c.loop-at.at 0) (sym c.if-not-is_ascii_digit.ensures.value) in
    omega (arith, c.from.ensures)

pub loop-at-preserved : goal.loop-at-preserved
loop-at-preserved c =
    let bytes = c.args.bytes.now in
    let at : ℕ = c.loop-at.at in
    let digit : is_ascii_digit (get_or bytes at 0) ≡ true = sym c.if-not-is_ascii_digit.ensures.value in
    let more = digit_more bytes at c.loop-at-test.true digit in
    let so_far = c.loop-at.invariant.value in
    record {
      front = front_more bytes at c.loop-at-test.true c.loop-at.invariant.front digit;
      value = omega (arith, c.from.ensures);
      small = small_more at c.loop-at.value c.from.result c.loop-at.invariant.small
          (let nine = digit_small (get_or bytes at 0) digit in omega (arith, c.from.ensures));
    }
