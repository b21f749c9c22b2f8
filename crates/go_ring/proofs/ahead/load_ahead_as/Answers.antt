-- `load_ahead_as`: the step keeps the rule.
use Rattle.std.proofs.Common.{◌≡◌, ℕ, sym, ◌∙◌, subst}
use mathlib.Core.Option.{none}
use Rattle.atomic_table.specs.Table.{step, Allows}
use Rattle.go_core.specs.Frame.{place}
use Rattle.go_core.specs.Acts.{CanReadAhead}
use Rattle.go_rule.specs.Meaning.{meaning}
use Rattle.go_rule.specs.Views.{frame_of}
use Rattle.go_rule.specs.Rule.{IsRuled}
use Rattle.go_rule.specs.Steps.{LoadsAhead}
use Rattle.go_rule.proofs.FrontLoads.{ahead_allowed}
use Rattle.go_ring.proofs.Cursors.{index_within}
use Rattle.go_ring.proofs.ahead.load_ahead_as.Goals as goal

pub load-requires : goal.load-requires
load-requires g c =
    let m = meaning g.T.Part in
    let ring = c.args.ring.now in
    let t = ring.table.shared in
    let seat = c.args.seat.now in
    let at = c.args.at in
    let say = step t.table_id.slots (place (frame_of t.key) at) 0 0 none in
    let kept = ahead_allowed m (record { stands_on = g.met.T.Part.stands_on; recovers_on = g.met.T.Part.recovers_on }) t.key t.table_id.slots seat.id seat.me
    c.requires.at_ring.1 say at (subst (λ (n : ℕ). CanReadAhead n seat.me.0.core at) ring.slots_is c.requires.can)
    in
    let index = c.args.cursor.index in
    let same : t.key.layout.ring ≡ g.E.Place.slots = sym ring.slots_is ∙ c.requires.picked.1 in (
      c.requires.at_ring.0,
      index_within t.key t.table_id.words ring.slots ring.shards at c.args.cursor ring.some ring.slots_is ring.shards_is ring.words_is c.requires.on,
      subst (λ (n : ℕ). Allows (IsRuled m t.key) t.table_id.slots seat.id seat.me index (λ k. k) (LoadsAhead n g.E.Place.at say seat.me)) same
          (subst (λ (p : ℕ). Allows (IsRuled m t.key) t.table_id.slots seat.id seat.me index (λ k. k)
          (LoadsAhead t.key.layout.ring p say seat.me)) c.requires.picked.0
          (subst (λ (j : ℕ). Allows (IsRuled m t.key) t.table_id.slots seat.id seat.me j (λ k. k) (LoadsAhead t.key.layout.ring at say seat.me))
          (sym c.requires.on.index) kept)),
    )
