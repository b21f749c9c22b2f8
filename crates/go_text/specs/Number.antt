-- What decimal digits read as, within a limit.
use Rattle.std.specs.Prelude.{◌≡◌, ◌<◌, ◌≤◌, ℕ, ◌==◌, List, length, slice_index, nat_lt, nat_le, if◌then◌else◌, Result, Ok, Err}
use Rattle.std.specs.Char.{is_ascii_digit}
use Rattle.std.specs.List.{prefix_len}
use Rattle.std.specs.Str.Parse.{digits_value}
use Rattle.go_text.specs.declared.numbers.NumberFault.{NumberFault}
use Rattle.go_text.specs.declared.numbers.NumberFault.TheVariants.{Empty, NotADigit, TooLarge}

-- how many bytes from the front on are decimal digits: the place of the first other byte, or the length
abbrev pub digits_in_front : List ℕ → ℕ
digits_in_front bytes = prefix_len is_ascii_digit bytes

-- the number that decimal digits write
abbrev pub value_of : List ℕ → ℕ
value_of digits = digits_value 10 digits

-- the number that the bytes write; a fault where there are none, else where one is no digit, else where the number is above the limit
abbrev pub number_of : ℕ → List ℕ → Result ℕ NumberFault
number_of limit bytes =
    if length bytes == 0 then Err Empty
    else (if nat_lt (digits_in_front bytes) (length bytes) then Err (NotADigit (digits_in_front bytes))
    else (if nat_le (value_of bytes) limit then Ok (value_of bytes)
    else Err TooLarge))

-- the digits write the number: under each limit that it keeps to they read as it, and no zero stands in front of other digits
pub record IsNumeralOf (n : ℕ) (digits : List ℕ) : Type 0 where
  pub reads_back : (limit : ℕ) → n ≤ limit → number_of limit digits ≡ Ok n
  pub no_leading_zero : 1 < length digits → 48 < slice_index digits 0
