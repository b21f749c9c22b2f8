-- `take_on`: the shard may be given back, brought on as far as its seat may bring it.
use Rattle.std.proofs.Common.{◌≡◌, ℕ, refl, sym, ap, ◌∙◌, arith, subst}
use Rattle.go_core.specs.declared.part.PartState.{PartState}
use Rattle.go_rule.specs.Views.{frame_of}
use Rattle.go_rule.specs.Turns.{CanGive}
use Rattle.go_turns.specs.Samples.{meaning_by, brought_to}
use Rattle.go_turns.proofs.Handing.{told_of, view_is, may_give}
use Rattle.go_turns.proofs.Samples.{brought_can}
use Rattle.go_turns.proofs.tests.take_on.Goals as goal

pub returns-clause-may : goal.returns-clause-may
returns-clause-may c =
    let m = meaning_by (λ s. s) in
    let shards = c.args.ring.now.shards_is in
    let shard = c.requires.shard in
    let f = frame_of c.args.ring.now.table.shared.key in
    let place = c.args.place in
    let me = c.args.seat.now.me in
    let now = c.try_take.new.seat.me in
    let old = c.in_ok-hold.hold.part in
    let lent = c.part_mut-part.result.now in
    let new : PartState = record { front = c.max-part.result; cut = lent.cut; pins = lent.pins } in
    let tries = c.in_ok-hold.ensures.tries in
    let shows : lent ≡ old = c.part_mut-part.ensures.shows in
    let is : new ≡ brought_to 1 old =
    ap (λ (n : ℕ). record lent { front = n }) c.max-part.ensures ∙ ap (brought_to 1) shows
    in
    let can = brought_can (λ s. s) f me.0 place old new 1 (told_of m f place old me now tries.1) (omega arith) c.requires.may is in
    may_give m f place old me now tries.1 new now refl refl (subst (λ d. CanGive m f d place old new) (sym (view_is m f place old me now tries.1)) can)
