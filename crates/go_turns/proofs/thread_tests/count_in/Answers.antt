-- `count_in`: the shard is given back, brought on as far as its seat may bring it, with another count.
use Rattle.std.proofs.Common.{◌≡◌, ℕ, ◌+◌, ◌%◌, refl, sym, ap, ◌∙◌, arith, subst}
use Rattle.go_rule.specs.Views.{frame_of}
use Rattle.go_rule.specs.Turns.{CanGive}
use Rattle.go_turns.specs.declared.thread_tests.Counted.{Counted}
use Rattle.go_turns.specs.Holding.{MayGive}
use Rattle.go_turns.specs.Samples.{meaning_by, brought_to}
use Rattle.go_turns.proofs.Handing.{told_of, view_is, may_give}
use Rattle.go_turns.proofs.Samples.{brought_can}
use Rattle.go_turns.proofs.thread_tests.count_in.Goals as goal

pub give-requires-clause-may : goal.give-requires-clause-may
give-requires-clause-may g c =
    let m = meaning_by (λ (p : Counted). p.state) in
    let shards = c.args.ring.now.shards_is in
    let shard = c.requires.shard in
    let f = frame_of c.args.ring.now.table.shared.key in
    let place = c.args.place in
    let me = c.args.seat.now.me in
    let now = c.take-hold.new.seat.me in
    let old = c.take-hold.result.part in
    let lent = c.part_mut-part.result.now in
    let new : Counted = record {
      state = record { front = c.max-part.result; cut = lent.state.cut; pins = lent.state.pins };
      count = (lent.count + 1) % 18446744073709551616;
    } in
    let takes = c.take-hold.ensures.takes in
    let is : new.state ≡ brought_to c.args.to old.state =
    ap (λ (n : ℕ). record lent.state { front = n }) c.max-part.ensures ∙ ap (λ p. brought_to c.args.to p.state) c.part_mut-part.ensures.shows
    in
    let told = told_of m f place old me now takes.1 in
    let can = brought_can (λ (p : Counted). p.state) f me.0 place old new c.args.to told (omega arith) c.requires.may is in
    subst (λ (p : ℕ). MayGive m f p new now) (sym takes.0)
    (may_give m f place old me now takes.1 new now refl refl (subst (λ d. CanGive m f d place old new) (sym (view_is m f place old me now takes.1)) can))
