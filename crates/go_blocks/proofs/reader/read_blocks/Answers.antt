-- The steps of `read_blocks`: a block more, and the first fault.
use Rattle.std.proofs.Common.{ℕ, List, subst, refl}
use Rattle.std.proofs.lemmas.Result.{err_from_is_err_and}
use Rattle.go_blocks.specs.Faults.{IsBlockFault, IsFirstFault}
use Rattle.go_blocks.specs.Reading.{TakesBlock}
use Rattle.go_blocks.proofs.Steps.{IfBad-weaker, up_to-next, up_to-wrong}
use Rattle.go_blocks.proofs.reader.read_blocks.Goals as goal

pub returns-in_err-count : goal.returns-in_err-count
returns-in_err-count c =
    let p = err_from_is_err_and c.from_residual-in_err-count.result c.from_residual-in_err-count.ensures.1 in
    rw (p.1, p.2) (IfBad-weaker _ (IsFirstFault c.args.bytes.now)
    (λ bad fault. up_to-wrong c.args.bytes.now c.loop-rest.rest.now c.args.vertices c.loop-rest.edges.items c.loop-rest.places.items c.loop-rest.gate bad
    c.loop-rest.invariant c.loop-rest-test.true
    (subst (λ (t : List ℕ). IsBlockFault c.args.vertices c.loop-rest.gate t bad) c.split_at.ensures.back fault))
    c.in_err-count.field-0.0 c.in_err-count.ensures)

pub loop-rest-preserved : goal.loop-rest-preserved
loop-rest-preserved c =
    rw c.in_ok-push.ensures.items
    (up_to-next c.args.bytes.now c.loop-rest.rest.now c.args.vertices c.loop-rest.edges.items c.read_block.new.edges.items c.loop-rest.places.items
    c.loop-rest.gate c.in_ok-count.count _
    c.in_ok-count.after.now c.loop-rest.invariant c.loop-rest-test.true
    (subst (λ (t : List ℕ). TakesBlock c.args.vertices t c.loop-rest.edges.items c.read_block.new.edges.items c.in_ok-count.count c.in_ok-count.after.now)
    c.split_at.ensures.back c.in_ok-count.ensures) refl)
