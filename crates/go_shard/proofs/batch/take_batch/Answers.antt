-- What holds of each lane still holds with places promised.
use Rattle.std.proofs.Common.{◌<◌, ◌+◌, ◌^◌, length}
use Rattle.go_shard.specs.Lane.{known, IsAhead}
use Rattle.go_shard.specs.Batch.{share_of}
use Rattle.go_shard.proofs.LaneLemmas.{promised-All, IsAhead-promising}
use Rattle.go_shard.proofs.batch.take_batch.Goals as goal

pub accept_all-requires-clause-ahead : goal.accept_all-requires-clause-ahead
accept_all-requires-clause-ahead c =
    promised-All (IsAhead c.args.front) c.args.slots.now c.promise_all.new.slots
    (share_of c.args.shards c.args.batch.now) c.promise_all.auto.slots
    (λ lane n ahead. IsAhead-promising c.args.front lane n ahead) c.in_ok-promise_all.ensures.ok.lanes c.requires.ahead

pub accept_all-requires-clause-small : goal.accept_all-requires-clause-small
accept_all-requires-clause-small c =
    promised-All (λ lane. known lane + length c.args.batch.now < 2 ^ 32) c.args.slots.now c.promise_all.new.slots
    (share_of c.args.shards c.args.batch.now) c.promise_all.auto.slots
    (λ lane n small. small) c.in_ok-promise_all.ensures.ok.lanes c.requires.small
