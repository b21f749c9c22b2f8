-- A shard that a seat has in its hand, and goes back with its turn.
use Rattle.std.proofs.Common.{◌≡◌, ℕ, true, false, refl, sym, ap, ◌∙◌, subst}
use Rattle.std.specs.Prelude.{◌||◌, Option as Maybe}
use Rattle.atomic_table.specs.Table.{Me}
use Rattle.go_word.specs.Pins.{has_name}
use Rattle.go_core.specs.Frame.{Frame}
use Rattle.go_core.specs.Parts.{IsShardPlace}
use Rattle.go_disk.specs.Device.{Device}
use Rattle.go_rule.specs.declared.view.SeatView.{SeatView}
use Rattle.go_rule.specs.Rule.{pins_at}
use Rattle.go_rule.specs.Turns.{owns_at, CanGive}
use Rattle.go_turns.specs.Holding.{Takes, MayGive, Gives}
use Rattle.go_turns.proofs.Handing.{told_of, view_is, may_give}
use Rattle.go_piece.specs.declared.piece.Piece.{Piece}
use Rattle.go_piece.specs.Pieces.{OnShard}
use Rattle.go_piece.specs.Meanings.{meaning_of, IsShardInHand}
use Rattle.go_piece.proofs.Unchanged.{piece_in_hand}

module _ {D : Type 0} (device : Device D) (f : Frame) (place : ℕ) (part : Piece D) (me now : Me (Maybe (Piece D)) (SeatView (Piece D)))
    (takes : Takes (meaning_of device) f place part me now) where
  -- what was taken at a shard's place is a shard, of which its seat may tell this with it in its hand
  pub held_so : IsShardPlace f place → OnShard (IsShardInHand device now.0.about place) part
  held_so here =
      subst (λ d. OnShard (IsShardInHand device d.about place) part) (sym (view_is (meaning_of device) f place part me now takes))
      (piece_in_hand device f me.0 place part here takes.turn.about.0 (told_of (meaning_of device) f place part me now takes))

  -- a name that was the seat's is so still
  pub owned_so : (name : ℕ) → has_name name (pins_at place me.0) ≡ true → owns_at place now.0 name ≡ true
  owned_so name named =
      ap (λ d. has_name name (pins_at place d) || false) (view_is (meaning_of device) f place part me now takes) ∙ ap (λ b. b || false) named

  -- and what it knew of the archived front
  pub known_so : now.0.core.archived ≡ me.0.core.archived
  known_so = ap (λ d. d.core.archived) (view_is (meaning_of device) f place part me now takes)

  module _ (key : ℕ) (new : Piece D) (key_is : key ≡ place) where
    -- it may go back so
    pub may_so : CanGive (meaning_of device) f now.0 place part new → MayGive (meaning_of device) f key new now
    may_so can =
        subst (λ k. MayGive (meaning_of device) f k new now) (sym key_is) (may_give (meaning_of device) f place part me now takes new now refl refl can)

    -- and went back so
    pub gave_so : (after : Me (Maybe (Piece D)) (SeatView (Piece D))) → Gives (meaning_of device) key new now after
        → Gives (meaning_of device) place new now after
    gave_so after gives = subst (λ k. Gives (meaning_of device) k new now after) key_is gives
