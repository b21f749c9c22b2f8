-- `keeps_pins`: each of the four tests, and all of them.
use Rattle.std.proofs.Common.{rules}
use Rattle.std.proofs.lemmas.Bool.{false≢true}
use Rattle.go_core.proofs.successor.keeps_pins.Goals as goal

pub returns-then-not-are_past : goal.returns-then-not-are_past
returns-then-not-are_past c =
    ((λ no'. absurd (false≢true no')), (λ keeps. c.if-not-are_past.ensures.1 (rw (c.as_slice-after.ensures) keeps.cut_pins)))

pub returns-then-not-are_named : goal.returns-then-not-are_named
returns-then-not-are_named c =
    ((λ no'. absurd (false≢true no')), (λ keeps. c.if-not-are_named.ensures.1 (rw (c.as_slice-after.ensures) keeps.names)))

pub returns-then-not-others_stay : goal.returns-then-not-others_stay
returns-then-not-others_stay c =
    ((λ no'. absurd (false≢true no')), (λ keeps. c.if-not-others_stay.ensures.1 (rw (c.as_slice-before.ensures, c.as_slice-after.ensures) keeps.others)))

pub returns : goal.returns
returns c = (
  (λ all.
      record {
        cut_pins = rw (← c.as_slice-after.ensures) (c.if-not-are_past.ensures.0 (search rules));
        names = rw (← c.as_slice-after.ensures) (c.if-not-are_named.ensures.0 (search rules));
        others = rw (← c.as_slice-before.ensures, ← c.as_slice-after.ensures) (c.if-not-others_stay.ensures.0 (search rules));
        pins = rw (← c.as_slice-before.ensures, ← c.as_slice-after.ensures) (c.all_follow.ensures.0 all);
      }),
  (λ keeps. c.all_follow.ensures.1 (rw (c.as_slice-before.ensures, c.as_slice-after.ensures) keeps.pins)),
)
