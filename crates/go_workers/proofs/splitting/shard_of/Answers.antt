-- `shard_of`: the remainder is what is left behind the place.
use Rattle.std.proofs.Common.{arith}
use Rattle.go_workers.proofs.Halves.{rest_of}
use Rattle.go_workers.proofs.splitting.shard_of.Goals as goal

pub returns : goal.returns
returns c = let both = rest_of c.args.v c.args.shards c.place_of.result c.place_of.ensures in omega arith
