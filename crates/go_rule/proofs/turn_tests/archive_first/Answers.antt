-- `archive_first`: each of the three shards is known to have stood there.
use Rattle.std.proofs.Common.{◌∷◌, ap, ◌∙◌, arith}
use Rattle.go_rule.proofs.TurnSamples.{three_stood}
use Rattle.go_rule.proofs.turn_tests.archive_first.Goals as goal

pub store_archived-requires-clause-can : goal.store_archived-requires-clause-can
store_archived-requires-clause-can c =
    let last = c.bring_on-3.ensures.archiver c.if-not-bring_on-3.false in
    let archived = last.archived in
    let taken = last.taken_is in
    let one = c.bring_on.ensures.stood c.if-not-bring_on.false in
    let two = c.bring_on-2.ensures.stood c.if-not-bring_on-2.false in
    let three = c.bring_on-3.ensures.stood c.if-not-bring_on-3.false in
    record {
      role = last.archives;
      onward = omega arith;
      taken = omega arith;
      stood = λ place less.
          three_stood _ _
          (three ∙ ap (λ xs. record { place = 2; front = 1 } ∷ xs) (two ∙ ap (λ xs. record { place = 1; front = 1 } ∷ xs) one))
          place (omega arith);
    }
