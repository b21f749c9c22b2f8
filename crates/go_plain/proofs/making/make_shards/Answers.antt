-- What `make_shards` needs and gives.
use Rattle.std.proofs.Common.{[], length}
use Rattle.go_shard.proofs.MakingLemmas.{all_come, none_behind, come_whole}
use Rattle.go_plain.proofs.NewLemmas.{uncut}
use Rattle.go_plain.proofs.making.make_shards.Goals as goal

pub catch_up-requires : goal.catch_up-requires
catch_up-requires c =
    record {
      v = c.args.setup.vertices;
      so_many = c.args.setup.shards;
      log = c.args.edges.now;
      behind =
          none_behind c.args.setup.vertices c.args.setup.shards c.args.edges.now c.in_ok-shards.shards.items
          (c.in_ok-shards.ensures c.args.edges.now) c.requires.ids c.requires.small;
    }

pub returns-clause-parts : goal.returns-clause-parts
returns-clause-parts c =
    let behind = none_behind c.args.setup.vertices c.args.setup.shards c.args.edges.now c.in_ok-shards.shards.items
    (c.in_ok-shards.ensures c.args.edges.now) c.requires.ids c.requires.small in
    let parts = c.catch_up.ensures.parts c.args.setup.vertices c.args.setup.shards c.args.edges.now behind in
    all_come c.args.setup.vertices c.args.setup.shards 0 [] c.args.edges.now c.catch_up.new.shards.items parts
    (come_whole (length c.args.edges.now) c.catch_up.new.shards.items c.in_ok-catch_up.ensures.come)

pub returns-clause-cuts : goal.returns-clause-cuts
returns-clause-cuts c =
    let behind = none_behind c.args.setup.vertices c.args.setup.shards c.args.edges.now c.in_ok-shards.shards.items
    (c.in_ok-shards.ensures c.args.edges.now) c.requires.ids c.requires.small in
    let parts = c.catch_up.ensures.parts c.args.setup.vertices c.args.setup.shards c.args.edges.now behind in
    uncut c.args.setup.vertices c.args.setup.shards [] c.args.edges.now c.catch_up.new.shards.items parts
