-- `bring_on_beside`: the shard may be given back after a load of the log's length as before it.
use Rattle.std.proofs.Common.{◌≡◌, ℕ, List, length, take, take_all, refl, sym, ap, arith, subst}
use Rattle.go_word.specs.declared.edge.Edge.{Edge}
use Rattle.go_rule.specs.Views.{frame_of, with_head}
use Rattle.go_turns.specs.Holding.{MayGive}
use Rattle.go_turns.specs.Samples.{meaning_by}
use Rattle.go_turns.proofs.Later.{Knows, may_later}
use Rattle.go_turns.proofs.tests.bring_on_beside.Goals as goal

pub give-requires-clause-may : goal.give-requires-clause-may
give-requires-clause-may c =
    let m = meaning_by (λ s. s) in
    let f = frame_of c.args.ring.now.table.shared.key in
    let now = c.take_on.new.seat.me in
    let then = c.load_head.new.seat.me in
    let d = now.0 in
    let loads = c.load_head.ensures.tells.becomes in
    let seen : List Edge = d.told.seen in
    let all : seen ≡ take (length seen) seen = sym (take_all (length seen) seen (omega arith)) in
    let same : Knows c.args.place d (with_head c.load_head.result d) =
    record {
      about = refl;
      seen = all;
      flagged = λ flagged. flagged;
      archived = omega arith;
      taken = omega arith;
      reach = omega arith;
      pins = refl;
    }
    in
    subst (λ (place : ℕ). MayGive m f place c.in_ok-hold.hold.part then) (sym c.in_ok-hold.ensures.place)
    (may_later m f c.args.place c.in_ok-hold.hold.part now then c.in_ok-hold.ensures.may (ap (λ z. z.0.stake.notes) loads) (ap (λ z. z.1) loads)
    (subst (λ e. Knows c.args.place d e) (sym (ap (λ z. z.0) loads)) same))
