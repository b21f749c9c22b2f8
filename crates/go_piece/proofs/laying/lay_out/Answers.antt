-- The loop of `lay_out`.
use Rattle.std.proofs.Common.{◌≡◌, List, [], ◌++◌, map, Some, length, ap, ◌∙◌, arith, subst}
use Rattle.std.specs.Vec.Iter.{into_iter_items}
use Rattle.std.proofs.lemmas.List.{nil_from_length}
use Rattle.go_shard.specs.ShardState.{ShardState}
use Rattle.go_piece.specs.declared.piece.Piece.TheVariants.{Shard}
use Rattle.go_piece.proofs.Opening.{laid_next, laid_last, can_open}
use Rattle.go_piece.proofs.laying.lay_out.Goals as goal

pub loop-shard-preserved : goal.loop-shard-preserved
loop-shard-preserved g c =
    let shard = c.in-Some.shard in
    let rest = into_iter_items c.next.new.self in
    let taken = c.in-Some.ensures.steps.0 in
    let items = c.loop-shard.slots.items in
    let all = map Some (map Shard c.args.shards.items) in
    let before = subst (λ (s : List ShardState). items ++ map Some (map Shard s) ≡ all) taken c.loop-shard.invariant.1 in (
      (tt, tt),
      rw c.push_reserved.ensures.items (laid_next items shard rest all before),
      omega (arith, c.loop-shard.invariant.2, ap (λ (s : List ShardState). length s) taken, c.push_reserved.ensures.len, c.push_reserved.ensures.capacity),
    )

pub returns-clause-laid : goal.returns-clause-laid
returns-clause-laid g c =
    let rest = into_iter_items c.loop-shard.shard-iterator in
    let items = c.loop-shard.slots.items in
    let none : rest ≡ [] = nil_from_length rest (omega (arith, c.in-None.ensures.steps.0, c.loop-shard.shard-iterator.rest.ok)) in
    let before = subst (λ (s : List ShardState). items ++ map Some (map Shard s) ≡ map Some (map Shard c.args.shards.items)) none
    c.loop-shard.invariant.1
    in
    c.push_reserved-2.ensures.items ∙ laid_last items c.args.shards.items c.args.file before

pub returns-clause-opens : goal.returns-clause-opens
returns-clause-opens g c = λ key kept has is.
    let laid = returns-clause-laid g c in
    rw (laid, is) (can_open g.D.Disk.device g.met.D.Disk.rules key c.args.shards.items kept has)
