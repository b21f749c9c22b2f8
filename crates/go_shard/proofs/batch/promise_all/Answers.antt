-- What is withdrawn leaves each lane as it was.
use Rattle.std.proofs.Common.{◌≡◌, ◌∙◌, count_by}
use Rattle.go_shard.specs.Lane.{lane_at, is_at}
use Rattle.go_shard.proofs.LaneLemmas.{lanes-same, restored, on_err}
use Rattle.go_shard.proofs.batch.promise_all.Goals as goal

pub returns-then-is_err-clause-err : goal.returns-then-is_err-clause-err
returns-then-is_err-clause-err c =
    on_err (c.withdraw_all.new.slots ≡ c.args.slots.now) c.promise_some-promised.result
    (lanes-same c.withdraw_all.new.slots c.args.slots.now (c.withdraw_all.auto.slots ∙ c.promise_some-promised.auto.slots) (λ place.
    restored (count_by (is_at c.args.shards place) c.args.batch.now) (lane_at c.args.slots.now place) (lane_at c.promise_some-promised.new.slots place)
    (lane_at c.withdraw_all.new.slots place) (c.promise_some-promised.ensures.kept place) (c.withdraw_all.ensures place)))
