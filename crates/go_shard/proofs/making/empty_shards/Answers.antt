-- The loop of `empty_shards`.
use Rattle.std.proofs.Common.{◌≡◌, ℕ, subst, arith}
use Rattle.go_shard.proofs.MakingLemmas.{IsEmptyUpTo, empty_push, empty_all}
use Rattle.go_shard.proofs.making.empty_shards.Goals as goal

pub loop-i-preserved : goal.loop-i-preserved
loop-i-preserved c =
    let e = c.in_ok-new.ensures in
    rw c.in_ok-push.ensures.items (empty_push c.args.vertices c.args.shards c.loop-i.i c.loop-i.made.items c.in_ok-new.field-0 c.loop-i.invariant
    (record { stands = e.stands; whose = record { index_is = e.index; shards_are = e.shards; vertices_are = e.vertices }; pins = e.pins }))

pub returns : goal.returns
returns c =
    let all : c.loop-i.i ≡ c.args.shards = omega (arith, c.loop-i-test.false, c.loop-i.auto.i-end) in
    empty_all c.args.vertices c.args.shards c.loop-i.made.items
    (subst (λ (n : ℕ). IsEmptyUpTo c.args.vertices c.args.shards n c.loop-i.made.items) all c.loop-i.invariant) c.requires.shared (omega arith)
