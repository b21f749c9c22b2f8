-- What decimal digits read as, digit by digit, and that a number's own digits read as that number.
use Rattle.std.proofs.Common.{◌≡◌, ℕ, inl, inr, ◌+◌, ◌-◌, ◌*◌, ◌^◌, ◌/◌, ◌%◌, ◌<◌, ◌≤◌, List}
use Rattle.std.proofs.Common.{[], ◌∷◌, ◌++◌, length, get_or, set, take, drop, true, false, sym, ap, subst}
use Rattle.std.proofs.Common.{◌∙◌, append_assoc, length-append, length-drop, arith, Ok, Err}
use Rattle.std.proofs.lemmas.Bool.{cases_lt}
use Rattle.std.proofs.lemmas.Bool.Decides.{nat_tests}
use Rattle.std.proofs.lemmas.Fmt.{decimal_is_IsNumeral, first_decimal, decimal_digit, decimal_step, decimal_nonempty, length-decimal-le}
use Rattle.std.proofs.lemmas.Int.Digits.{digits_value_more}
use Rattle.std.proofs.lemmas.List.{drop-set}
use Rattle.std.proofs.lemmas.List.Sums.{prefix_len_passes, prefix_len_is, prefix_len_stops}
use Rattle.std.proofs.Math.Nat.{pow-suc, pow-le-pow_right}
use Rattle.std.proofs.lemmas.Str.{digit_value_digit}
use Rattle.std.proofs.lemmas.Str.Parse.{digit_at, digits_value-take-le}
use Rattle.std.specs.Char.{is_ascii_digit, digit_value}
use Rattle.std.specs.Prelude.{decimal, nat_le, if◌then◌else◌, Some, None}
use Rattle.std.specs.Str.Parse.{AllDigits}
use Rattle.go_text.specs.declared.numbers.NumberFault.TheVariants.{NotADigit}
use Rattle.go_text.specs.Number.{digits_in_front, value_of, number_of, IsNumeralOf}

-- a digit is a byte from '0' to '9', and the other way round
digit_range : (byte : ℕ) → is_ascii_digit byte ≡ true → (48 ≤ byte) × (byte ≤ 57)
digit_range byte digit = grind (arith, nat_tests)

digit_from_range : (byte : ℕ) → 48 ≤ byte → byte ≤ 57 → is_ascii_digit byte ≡ true
digit_from_range byte low high = grind (arith, nat_tests)

-- where all are digits, each is in their range
pub digit_within : (digits : List ℕ) (i : ℕ) → digits_in_front digits ≡ length digits → i < length digits → (48 ≤ get_or digits i 0) × (get_or digits i 0 ≤ 57)
digit_within digits i all inside = digit_range (get_or digits i 0) (prefix_len_passes is_ascii_digit digits i 0 (omega arith))

-- one more digit
pub value_of_more : (digits : List ℕ) (i : ℕ) → digits_in_front digits ≡ length digits → i < length digits →
    value_of (take (i + 1) digits) ≡ value_of (take i digits) * 10 + (get_or digits i 0 - 48)
value_of_more digits i all inside =
    let range = digit_within digits i all inside in
    let own : digit_value (get_or digits i 0) + 48 ≡ get_or digits i 0 = digit_value_digit (get_or digits i 0) range in
    let value : digit_value (get_or digits i 0) ≡ get_or digits i 0 - 48 = omega arith in
    digits_value_more 10 digits i inside ∙ ap (λ (d : ℕ). value_of (take i digits) * 10 + d) value

-- fewer digits write no more
pub value_of-take-le : (digits : List ℕ) (i : ℕ) → value_of (take i digits) ≤ value_of digits
value_of-take-le digits i = digits_value-take-le 10 digits i (omega arith)

-- digits are digits from the front on
all_in_front : (digits : List ℕ) → AllDigits 10 digits → digits_in_front digits ≡ length digits
all_in_front digits all =
    prefix_len_is is_ascii_digit digits (length digits) 0 (omega arith)
    (λ k below. let range = digit_at digits k all below in digit_from_range (get_or digits k 0) range.0 range.1)
    (λ past. absurd (omega arith))

-- what is read once it is known to be all digits, and a value within the limit
read_within : (limit : ℕ) (digits : List ℕ) → 0 < length digits → digits_in_front digits ≡ length digits → value_of digits ≤ limit →
    number_of limit digits ≡ Ok (value_of digits)
read_within limit digits some all within = grind (arith, nat_tests)

-- a number's own digits read as that number
number_of-decimal : (limit n : ℕ) → n < 2 ^ 64 → n ≤ limit → number_of limit (decimal n) ≡ Ok n
number_of-decimal limit n small within =
    let numeral = decimal_is_IsNumeral n small in
    let value : value_of (decimal n) ≡ n = numeral.1 in
    read_within limit (decimal n) numeral.0.0 (all_in_front (decimal n) numeral.0.1) (omega arith) ∙ ap (λ (m : ℕ). Ok m) value

-- a number with more than one digit isn't zero, so its first digit isn't either
no_leading_zero : (n : ℕ) → n < 2 ^ 64 → 1 < length (decimal n) → 48 < get_or (decimal n) 0 0
no_leading_zero n small many =
    elim (cases_lt 0 n) [
      | inl above ↦ first_decimal n above small
      | inr none ↦ let one : length (decimal n) ≡ 1 = ap length (decimal_digit n (omega arith)) in absurd (omega arith)
    ]

-- a number's own digits write it
pub decimal_is_numeral : (n : ℕ) → n < 2 ^ 64 → IsNumeralOf n (decimal n)
decimal_is_numeral n small = record {
  reads_back = λ limit within. number_of-decimal limit n small within;
  no_leading_zero = no_leading_zero n small;
}

-- while a number's digits are written from the last one on, there is room for one more
pub room_left : (n rest start : ℕ) (digits : List ℕ) → n < 2 ^ 64 → rest < 2 ^ 64 → length digits ≡ 20 → start ≤ 20 →
    decimal n ≡ decimal rest ++ drop start digits → 1 ≤ start
room_left n rest start digits small below twenty inside so_far =
    let most : length (decimal n) ≤ 20 = length-decimal-le 20 n (omega arith) (omega arith) small in
    let one : 0 < length (decimal rest) = decimal_nonempty rest below in
    let parts : length (decimal n) ≡ length (decimal rest) + length (drop start digits) = ap length so_far ∙ length-append (decimal rest) (drop start digits) in
    let written : length (drop start digits) ≡ length digits - start = length-drop start digits in
    omega arith

-- a digit that is written before those that are there
written_first : (start digit : ℕ) (digits : List ℕ) → 1 ≤ start → start ≤ length digits →
    drop (start - 1) (set digits (start - 1) digit) ≡ digit ∷ drop start digits
written_first start digit digits some inside =
    let back : start - 1 + 1 ≡ start = omega arith in
    drop-set digits (start - 1) digit (omega arith) ∙ ap (λ (k : ℕ). digit ∷ drop k digits) back

-- one more digit is written
pub digit_written : (n rest start : ℕ) (digits : List ℕ) → rest < 2 ^ 64 → 10 ≤ rest → 1 ≤ start → start ≤ length digits →
    decimal n ≡ decimal rest ++ drop start digits → decimal n ≡ decimal (rest / 10) ++ drop (start - 1) (set digits (start - 1) (48 + rest % 10))
digit_written n rest start digits below more some inside so_far =
    so_far
    ∙ ap (λ (ds : List ℕ). ds ++ drop start digits) (decimal_step rest more below)
    ∙ append_assoc (decimal (rest / 10)) ((48 + rest % 10) ∷ []) (drop start digits)
    ∙ ap (λ (ds : List ℕ). decimal (rest / 10) ++ ds) (sym (written_first start (48 + rest % 10) digits some inside))

-- the first digit is written
pub first_written : (n rest start : ℕ) (digits : List ℕ) → rest < 10 → 1 ≤ start → start ≤ length digits → decimal n ≡ decimal rest ++ drop start digits →
    drop (start - 1) (set digits (start - 1) (48 + rest)) ≡ decimal n
first_written n rest start digits last some inside so_far =
    written_first start (48 + rest) digits some inside
    ∙ sym (so_far ∙ ap (λ (ds : List ℕ). ds ++ drop start digits) (decimal_digit rest last))

-- a value that is above the limit is not answered
pub above_limit : (value limit : ℕ) → limit < value → None ≡ (if nat_le value limit then Some value else None)
above_limit value limit above = grind (arith, nat_tests)

-- the digits in front end with the first byte that is none
pub front_here : (bytes : List ℕ) (at : ℕ) → at < length bytes → at ≤ digits_in_front bytes → is_ascii_digit (get_or bytes at 0) ≡ false →
    digits_in_front bytes ≡ at
front_here bytes at within front other = elim (cases_lt at (digits_in_front bytes)) [
  | inl more ↦ absurd (let digit = prefix_len_passes is_ascii_digit bytes at 0 more in cc)
  | inr most ↦ omega arith
]

-- which is the first that is wrong
pub faulty_at : (limit : ℕ) (bytes : List ℕ) (at : ℕ) → at < length bytes → at ≤ digits_in_front bytes → is_ascii_digit (get_or bytes at 0) ≡ false →
    Err (NotADigit at) ≡ number_of limit bytes
faulty_at limit bytes at within front other =
    let here = front_here bytes at within front other in grind (arith, nat_tests)

-- and go on over each that is one
pub front_more : (bytes : List ℕ) (at : ℕ) → at < length bytes → at ≤ digits_in_front bytes → is_ascii_digit (get_or bytes at 0) ≡ true →
    at + 1 ≤ digits_in_front bytes
front_more bytes at within front digit = elim (cases_lt at (digits_in_front bytes)) [
  | inl more ↦ omega arith
  | inr most ↦ absurd (
      let end : digits_in_front bytes ≡ at = omega arith in
      let stops = prefix_len_stops is_ascii_digit bytes 0 (omega arith) in
      let here : is_ascii_digit (get_or bytes at 0) ≡ false = subst (λ (k : ℕ). is_ascii_digit (get_or bytes k 0) ≡ false) end stops in
      cc
      )
]

-- one more digit of some bytes
pub digit_more : (bytes : List ℕ) (at : ℕ) → at < length bytes → is_ascii_digit (get_or bytes at 0) ≡ true →
    value_of (take (at + 1) bytes) ≡ value_of (take at bytes) * 10 + (get_or bytes at 0 - 48)
digit_more bytes at within digit =
    let range = digit_range (get_or bytes at 0) digit in
    let own : digit_value (get_or bytes at 0) + 48 ≡ get_or bytes at 0 = digit_value_digit (get_or bytes at 0) range in
    let value : digit_value (get_or bytes at 0) ≡ get_or bytes at 0 - 48 = omega arith in
    digits_value_more 10 bytes at within ∙ ap (λ (d : ℕ). value_of (take at bytes) * 10 + d) value

-- a digit is no more than nine
pub digit_small : (byte : ℕ) → is_ascii_digit byte ≡ true → byte - 48 ≤ 9
digit_small byte digit = let range = digit_range byte digit in omega arith

-- so many digits write less than this
pub small_more : (at value digit : ℕ) → value < 10 ^ at → digit ≤ 9 → value * 10 + digit < 10 ^ (at + 1)
small_more at value digit small nine =
    let next : 10 ^ (at + 1) ≡ 10 ^ at * 10 = ap (λ (n : ℕ). 10 ^ n) (omega arith) ∙ pow-suc 10 at in
    omega arith

-- and with one more digit still fit 64 bits
pub small_fits : (at value : ℕ) → at ≤ 18 → value < 10 ^ at → value * 10 + 9 < 2 ^ 64
small_fits at value few small =
    let most : 10 ^ at ≤ 10 ^ 18 = pow-le-pow_right (omega arith) few in
    omega arith
