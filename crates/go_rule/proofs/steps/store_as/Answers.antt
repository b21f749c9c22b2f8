-- `store_as`: the step keeps the rule.
use Rattle.std.proofs.Common.{◌≡◌, ℕ, ap, ◌∙◌, sym, subst}
use mathlib.Core.Option.{none}
use Rattle.atomic_table.specs.Table.{step, Allows}
use Rattle.go_word.specs.Word.{word}
use Rattle.go_core.specs.Frame.{place}
use Rattle.go_core.specs.declared.entry.Entry.{Entry}
use Rattle.go_rule.specs.Meaning.{meaning}
use Rattle.go_rule.specs.Views.{frame_of}
use Rattle.go_rule.specs.Rule.{IsRuled}
use Rattle.go_rule.specs.Steps.{Stores}
use Rattle.go_rule.proofs.WordSteps.{store_allowed}
use Rattle.go_rule.proofs.steps.store_as.Goals as goal

pub store-requires : goal.store-requires
store-requires g c =
    let m = meaning g.T.Part in
    let ring = c.args.ring.now in
    let t = ring.table.shared in
    let seat = c.args.seat.now in
    let x = c.args.entry in
    let new = c.encode-word.result in
    let is : new ≡ word t.key.layout.ring x.at x.edge = c.encode-word.ensures.exact ∙ ap (λ n. word n x.at x.edge) ring.slots_is in
    let say = step t.table_id.slots (place (frame_of t.key) x.at) new 0 none in
    let kept = store_allowed m (record { stands_on = g.met.T.Part.stands_on; recovers_on = g.met.T.Part.recovers_on }) t.key t.table_id.slots seat.id seat.me
    c.requires.at.1 say x c.requires.pending c.requires.room new is
    in (
      c.requires.at.0,
      c.place-place.ensures.within,
      subst (λ (z : Entry). Allows (IsRuled m t.key) t.table_id.slots seat.id seat.me c.place-place.result (λ _. new) (λ _. Stores z say seat.me new))
          c.requires.picked
          (subst (λ (k : ℕ). Allows (IsRuled m t.key) t.table_id.slots seat.id seat.me k (λ _. new) (λ _. Stores x say seat.me new))
          (sym c.place-place.ensures.is) kept),
    )
