-- The loop of `joined`: the next list has that of the other half behind it.
use Rattle.std.proofs.Common.{◌≡◌, ◌∙◌, ◌<◌, ◌++◌, [], get_or, set, length, map, arith, ap, sym, length-set}
use Rattle.std.proofs.lemmas.List.{get_or-map, length-map, map-set}
use Rattle.go_shard.proofs.SplitLemmas.{items_of}
use Rattle.go_workers.proofs.Halves.{joined_next}
use Rattle.go_workers.proofs.splitting.joined.Goals as goal

pub loop-i-preserved : goal.loop-i-preserved
loop-i-preserved c =
    let i = c.loop-i.i in
    let one = c.loop-i.one.items in
    let two = c.args.two.items in
    let less = c.loop-i-test.true in
    let inside : i < length one = omega (arith, c.len.ensures, c.loop-i.one.ok) in
    let inv = c.loop-i.invariant in
    let here : get_or (map items_of one) i [] ≡ c.index_mut.result.now.items =
    get_or-map items_of one i c.index_mut.result.now [] inside ∙ ap items_of (sym c.index_mut.ensures.value) in
    let counts : length (map items_of one) ≡ length (map items_of c.args.one.items) = inv.0.count in
    let first = length-map one items_of in
    let whole = length-map c.args.one.items items_of in
    let there_in : i < length two = omega (arith, c.requires.count) in
    let there : get_or (map items_of two) i [] ≡ c.deref.result.now =
    get_or-map items_of two i c.index.result.now [] there_in ∙ ap items_of (sym c.index.ensures) ∙ sym c.deref.ensures.value in (
      joined_next i (map items_of c.args.one.items) (map items_of two) (map items_of one)
          (map items_of (set one i c.extend_from_slice.new.self)) c.extend_from_slice.new.self.items (omega arith)
          (c.in_ok-extend_from_slice.ensures.items ∙ ap (λ xs. xs ++ c.deref.result.now) (sym here)
          ∙ ap (λ ys. get_or (map items_of one) i [] ++ ys) (sym there))
          (map-set items_of one i c.extend_from_slice.new.self) inv.0,
      (let long = length-set one i c.extend_from_slice.new.self in omega arith),
    )
