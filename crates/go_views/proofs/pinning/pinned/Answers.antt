-- `pinned`: a shard that was pinned, or was refused, may be given back.
use Rattle.std.proofs.Common.{ℕ, ◌≡◌, sym, subst}
use Rattle.std.specs.Prelude.{MatchResult}
use Rattle.go_rule.specs.Turns.{CanGive}
use Rattle.go_piece.specs.declared.piece.Piece.TheVariants.{Shard}
use Rattle.go_piece.specs.Pieces.{state_in, OnShard}
use Rattle.go_piece.specs.Meanings.{meaning_of, IsShardInHand}
use Rattle.go_views.specs.PlaceTurns.{IsAdded}
use Rattle.go_views.proofs.ShardsPinned.{pinned_either, pinned_pins}
use Rattle.go_views.proofs.pinning.pinned.Goals as goal

pub returns-in-Shard-clause-gives : goal.returns-in-Shard-clause-gives
returns-in-Shard-clause-gives g c = λ f d place here held.
    let device = g.D.Disk.device in
    let old = c.in-Shard.shard in
    let new = c.pin_shard-name.new.shard in
    let hand = subst (λ p. OnShard (IsShardInHand device d.about place) p) c.in-Shard.is held in
    subst (λ p. CanGive (meaning_of device) f d place p (Shard new)) (sym c.in-Shard.is)
    (pinned_either device f d place c.pin_shard-name.result old new here hand c.pin_shard-name.ensures)

pub returns-in-Shard-clause-pins : goal.returns-in-Shard-clause-pins
returns-in-Shard-clause-pins g c =
    let old = c.in-Shard.shard in
    let new = c.pin_shard-name.new.shard in
    subst
    (λ p.
    MatchResult c.pin_shard-name.result (λ name. (front : ℕ) × IsAdded name front (state_in p).pins new.pins) (λ _. new.pins ≡ (state_in p).pins))
    (sym c.in-Shard.is) (pinned_pins c.pin_shard-name.result old new c.pin_shard-name.ensures)
