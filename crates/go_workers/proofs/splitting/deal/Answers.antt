-- The loop of `deal`: the next entry goes to the list of its shard.
use Rattle.std.proofs.Common.{◌≡◌, ◌∙◌, ◌%◌, ◌<◌, ◌++◌, ◌∷◌, [], get_or, set, length, map, false, arith, ap, sym}
use Rattle.std.proofs.lemmas.List.{get_or-map, length-map, map-set}
use Rattle.go_shard.proofs.SplitLemmas.{IsSplit_push, items_of}
use Rattle.go_workers.proofs.splitting.deal.Goals as goal

pub loop-edge-preserved : goal.loop-edge-preserved
loop-edge-preserved c =
    let e = get_or c.args.edges.now c.loop-edge.edge-index (record { del = false; src = 0; dst = 0 }) in
    let lists = c.loop-edge.lists.items in
    let place = c.shard_of.result in
    let at : place ≡ e.src % c.args.shards = c.shard_of.ensures in
    let inside : place < length lists = omega (arith, c.loop-edge.invariant.so_many, length-map lists items_of, at, c.requires.some) in
    let was : get_or (map items_of lists) (e.src % c.args.shards) [] ≡ c.index_mut.result.now.items =
    ap (λ n. get_or (map items_of lists) n []) (sym at) ∙ get_or-map items_of lists place c.index_mut.result.now [] inside
    ∙ ap items_of (sym c.index_mut.ensures.value) in
    IsSplit_push c.args.shards c.loop-edge.edge-index c.args.edges.now (map items_of lists) _ c.push.new.self.items
    (record { del = false; src = 0; dst = 0 }) c.requires.some (omega arith) c.loop-edge.invariant
    (c.in_ok-push.ensures.items ∙ ap (λ l. l ++ e ∷ []) (sym was))
    (map-set items_of lists place c.push.new.self ∙ ap (λ n. set (map items_of lists) n c.push.new.self.items) at)
