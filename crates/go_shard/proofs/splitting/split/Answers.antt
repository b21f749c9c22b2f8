-- The next entry goes to the list of its shard, by the lemma.
use Rattle.std.proofs.Common.{◌≡◌, ◌∙◌, ◌%◌, ◌<◌, ◌++◌, ◌∷◌, [], get_or, set, length, map, false, arith, ap, sym}
use Rattle.std.proofs.lemmas.List.{get_or-map, length-map, map-set}
use Rattle.go_shard.proofs.SplitLemmas.{IsSplit_push, items_of}
use Rattle.go_shard.proofs.splitting.split.Goals as goal

pub loop-edge-preserved : goal.loop-edge-preserved
loop-edge-preserved c =
    let e = get_or c.args.edges.now c.loop-edge.edge-index (record { del = false; src = 0; dst = 0 }) in
    let inside : e.src % c.args.shards < length c.loop-edge.lists.items =
    omega (arith, c.loop-edge.invariant.so_many, length-map c.loop-edge.lists.items items_of) in
    let at : c.shard_of.result ≡ e.src % c.args.shards = c.shard_of.ensures ∙ ap (λ n. e.src % n) c.new-striping.ensures in
    let was : get_or (map items_of c.loop-edge.lists.items) (e.src % c.args.shards) [] ≡ c.index_mut.result.now.items =
    get_or-map items_of c.loop-edge.lists.items (e.src % c.args.shards) c.index_mut.result.now [] inside
    ∙ ap (λ n. items_of (get_or c.loop-edge.lists.items n c.index_mut.result.now)) (sym at) ∙ ap items_of (sym c.index_mut.ensures.value) in
    IsSplit_push c.args.shards c.loop-edge.edge-index c.args.edges.now (map items_of c.loop-edge.lists.items) _ c.push.new.self.items (record {
      del =
          false;
      src = 0;
      dst = 0;
    }) c.requires (omega arith) c.loop-edge.invariant (c.in_ok-push.ensures.items
    ∙ ap (λ l. l ++ e ∷ []) (sym was)) (map-set items_of c.loop-edge.lists.items c.shard_of.result c.push.new.self
    ∙ ap (λ n. set (map items_of c.loop-edge.lists.items) n c.push.new.self.items) at)
