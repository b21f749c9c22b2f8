-- The loop of `take_batches`.
use Rattle.std.proofs.Common.{◌<◌, length, arith, sym}
use Rattle.go_shard.proofs.TakingLemmas.{taken_next, batch_at}
use Rattle.go_shard.proofs.catching_up.take_batches.Goals as goal

pub take_batch-requires : goal.take_batch-requires
take_batch-requires c =
    let within : c.loop-i.i < length c.args.shards.now.items = omega (arith, c.loop-i-test.true, c.requires.count) in
    let batch = batch_at (λ list. list.items) c.args.batches.now c.loop-i.i c.index-batches-i.result c.deref.result.now
    c.loop-i-test.true c.index-batches-i.is c.deref.ensures.value in
    let e = c.index_mut.result.now in
    let was = taken_next c.args.start c.args.end _ c.args.shards.now.items c.loop-i.shards.items c.loop-i.i e e c.loop-i.invariant within
    c.index_mut.ensures.value in
    rw (sym batch, sym was) (c.requires.can.each c.loop-i.i e within)
