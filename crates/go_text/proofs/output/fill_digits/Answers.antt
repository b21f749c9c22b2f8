-- Each step writes the last digit of what is left.
use Rattle.std.proofs.Common.{◌≤◌, length-set, arith}
use Rattle.go_text.proofs.NumberLemmas.{room_left, digit_written, first_written}
use Rattle.go_text.proofs.output.fill_digits.Goals as goal

pub overflow_sub-start : goal.overflow_sub-start
overflow_sub-start c = room_left c.args.n c.loop-rest.rest c.loop-rest.start c.loop-rest.digits (omega arith) (omega arith) (omega arith)
    (omega arith) c.loop-rest.invariant.2

pub loop-rest-preserved : goal.loop-rest-preserved
loop-rest-preserved c =
    let room : 1 ≤ c.loop-rest.start = room_left c.args.n c.loop-rest.rest c.loop-rest.start c.loop-rest.digits (omega arith) (omega arith) (omega arith)
    (omega arith) c.loop-rest.invariant.2 in (
      omega arith,
      rw length-set c.loop-rest.invariant.1,
      digit_written c.args.n c.loop-rest.rest c.loop-rest.start c.loop-rest.digits (omega arith)
          (omega arith) room (omega arith) c.loop-rest.invariant.2,
    )

pub overflow_sub-start-2 : goal.overflow_sub-start-2
overflow_sub-start-2 c = room_left c.args.n c.loop-rest.rest c.loop-rest.start c.loop-rest.digits (omega arith) (omega arith) (omega arith)
    (omega arith) c.loop-rest.invariant.2

pub returns-clause-digits : goal.returns-clause-digits
returns-clause-digits c =
    let room : 1 ≤ c.loop-rest.start = room_left c.args.n c.loop-rest.rest c.loop-rest.start c.loop-rest.digits (omega arith) (omega arith) (omega arith)
    (omega arith) c.loop-rest.invariant.2 in
    first_written c.args.n c.loop-rest.rest c.loop-rest.start c.loop-rest.digits (omega arith) room (omega arith) c.loop-rest.invariant.2
