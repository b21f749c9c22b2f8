-- The bytes are digits where their digits in front are not fewer than they.
use Rattle.std.proofs.Common.{◌≤◌, length, arith}
use Rattle.std.proofs.lemmas.List.Sums.{prefix_len-le-length}
use Rattle.std.specs.Char.{is_ascii_digit}
use Rattle.go_text.specs.Number.{digits_in_front}
use Rattle.go_text.proofs.numbers.number.Goals as goal

pub value_within-requires : goal.value_within-requires
value_within-requires c =
    let most : digits_in_front c.args.bytes.now ≤ length c.args.bytes.now = prefix_len-le-length is_ascii_digit c.args.bytes.now in
    omega arith
