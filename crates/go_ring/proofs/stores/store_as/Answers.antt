-- `store_as`: the step keeps the rule.
use Rattle.std.proofs.Common.{◌≡◌, ℕ, ◌+◌, ap, ◌∙◌, sym, arith, subst}
use mathlib.Core.Option.{none}
use Rattle.atomic_table.specs.Table.{step, Allows}
use Rattle.go_word.specs.Word.{word}
use Rattle.go_core.specs.Frame.{place}
use Rattle.go_core.specs.declared.entry.Entry.{Entry}
use Rattle.go_rule.specs.Meaning.{meaning}
use Rattle.go_rule.specs.Views.{frame_of}
use Rattle.go_rule.specs.Rule.{IsRuled}
use Rattle.go_rule.specs.Steps.{Stores}
use Rattle.go_rule.proofs.WordSteps.{store_allowed}
use Rattle.go_word.proofs.WordLaws.{word-lt}
use Rattle.go_ring.proofs.Cursors.{index_within, word_along}
use Rattle.go_ring.proofs.stores.store_as.Goals as goal

pub store-requires : goal.store-requires
store-requires g c =
    let m = meaning g.T.Part in
    let ring = c.args.ring.now in
    let t = ring.table.shared in
    let seat = c.args.seat.now in
    let x = c.args.entry in
    let cursor = c.args.cursor in
    let new : ℕ = c.plain.result + cursor.rotation in
    let is : new ≡ word t.key.layout.ring x.at x.edge = ap (λ k. k + cursor.rotation) c.plain.ensures.exact
    ∙ word_along (frame_of t.key) x.at cursor x.edge c.requires.on in
    let say = step t.table_id.slots (place (frame_of t.key) x.at) new 0 none in
    let kept = store_allowed m (record { stands_on = g.met.T.Part.stands_on; recovers_on = g.met.T.Part.recovers_on }) t.key t.table_id.slots seat.id seat.me
    c.requires.at.1 say x c.requires.pending c.requires.room new is
    in (
      c.requires.at.0,
      index_within t.key t.table_id.words ring.slots ring.shards x.at cursor ring.some ring.slots_is ring.shards_is ring.words_is c.requires.on,
      subst (λ (z : Entry). Allows (IsRuled m t.key) t.table_id.slots seat.id seat.me cursor.index (λ _. new) (λ _. Stores z say seat.me new))
          c.requires.picked
          (subst (λ (k : ℕ). Allows (IsRuled m t.key) t.table_id.slots seat.id seat.me k (λ _. new) (λ _. Stores x say seat.me new))
          (sym c.requires.on.index) kept),
    )

pub overflow_add-word : goal.overflow_add-word
overflow_add-word g c =
    let x = c.args.entry in
    let f = frame_of c.args.ring.now.table.shared.key in
    let is = ap (λ k. k + c.args.cursor.rotation) c.plain.ensures.exact ∙ word_along f x.at c.args.cursor x.edge c.requires.on in
    let fits = word-lt f.slots x.at x.edge c.requires.storable in omega arith
