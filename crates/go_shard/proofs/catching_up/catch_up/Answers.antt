-- The loop of `catch_up`.
use Rattle.std.proofs.Common.{◌≡◌, ◌-◌, length, take, drop, map, refl, sym, subst, ◌∙◌, arith}
use Rattle.std.specs.Prelude.{All}
use Rattle.go_shard.specs.Parts.{stops_of, IsBeside}
use Rattle.go_shard.proofs.PartLemmas.{IsDealt, caught_none, can_all_take, parts_may, caught_more, piece_cut}
use Rattle.go_shard.proofs.catching_up.catch_up.Goals.{In_ok-batches}
use Rattle.go_shard.proofs.catching_up.catch_up.Goals as goal

pub loop-start-init : goal.loop-start-init
loop-start-init c = (
  caught_none c.args.from c.args.views.now c.args.newest.now c.args.shards.now.items c.requires,
  rw (sym c.deref.ensures.value) c.in_ok-stops.ensures,
  refl,
)

pub overflow_cast-len : goal.overflow_cast-len
overflow_cast-len c =
    let caught = c.loop-start.invariant.0 in
    let few = (caught.parts c.requires.v c.requires.so_many c.requires.log c.requires.behind).few in
    let count = (caught.parts c.requires.v c.requires.so_many c.requires.log c.requires.behind).count in
    omega (arith, few, count, c.len.ensures, c.loop-start.shards.ok)

-- the next piece of the log was split among the shards
dealt : (c : In_ok-batches) → IsDealt c.args.from c.loop-start.start c.next_stop-end.result c.args.newest.now (length c.loop-start.shards.items)
    (map (λ list. list.items) c.in_ok-batches.batches.items)
dealt c =
    let start = c.loop-start.start in
    let end = c.next_stop-end.result in
    let len : c.len.result ≡ length c.loop-start.shards.items = omega (arith, c.len.ensures, c.loop-start.shards.ok) in
    record {
      piece = take (end - c.args.from - (start - c.args.from)) (drop (start - c.args.from) c.args.newest.now);
      later = c.next_stop-end.ensures.later;
      within = c.next_stop-end.ensures.within;
      piece_is = piece_cut c.args.from start end c.args.newest.now c.loop-start.invariant.0.begun;
      split = rw (sym len) c.in_ok-batches.ensures;
    }

-- no stop is between the two fronts
beside : (c : In_ok-batches) → All (IsBeside c.loop-start.start c.next_stop-end.result) (stops_of c.args.shards.now.items c.args.views.now)
beside c =
    subst (All (IsBeside c.loop-start.start c.next_stop-end.result)) (c.deref-in-loop-start.ensures.value ∙ c.loop-start.invariant.1)
    c.next_stop-end.ensures.beside

pub take_batches-requires-clause-can : goal.take_batches-requires-clause-can
take_batches-requires-clause-can c =
    let here = (goal.at.take_batches-requires-clause-can c).In_ok-batches in
    can_all_take c.requires c.loop-start.invariant.0 (rw c.deref-in-loop-start-2.ensures.value (dealt here))

pub returns-in_err-take_batches-clause-parts : goal.returns-in_err-take_batches-clause-parts
returns-in_err-take_batches-clause-parts c =
    let here = (goal.at.returns-in_err-take_batches-clause-parts c).In_ok-batches in
    parts_may c.loop-start.invariant.0 (rw c.deref-in-loop-start-2.ensures.value (dealt here)) (beside here) c.take_batches.ensures.may

pub loop-start-preserved : goal.loop-start-preserved
loop-start-preserved c =
    let here = (goal.at.loop-start-preserved c).In_ok-batches in (
      caught_more c.loop-start.invariant.0 (rw c.deref-in-loop-start-2.ensures.value (dealt here)) (beside here) c.take_batches.ensures.may
          c.in_ok-take_batches.ensures.done,
      c.loop-start.invariant.1,
      refl,
    )
