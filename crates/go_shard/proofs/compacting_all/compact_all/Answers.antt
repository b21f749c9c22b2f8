-- What `compact_all` leaves.
use Rattle.go_shard.proofs.AllCompactLemmas.{parts_compacted}
use Rattle.go_shard.proofs.compacting_all.compact_all.Goals as goal

pub returns-clause-parts : goal.returns-clause-parts
returns-clause-parts c = λ v so_many from views log parts uncut.
    parts_compacted v so_many from c.args.front views log c.args.shards.now.items c.compact_each.new.shards.items c.compact_each.ensures.may parts uncut
