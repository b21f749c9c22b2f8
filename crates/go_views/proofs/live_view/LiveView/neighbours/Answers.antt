-- `neighbours`: the shard was taken, tells of the vertex at the view's pin, and goes back as it was.
use Rattle.std.proofs.Common.{◌≡◌, ◌%◌, ℕ, List, take, sym, refl, ap, ◌∙◌, arith, subst}
use Rattle.std.specs.Prelude.{OnOk}
use Rattle.std.proofs.lemmas.List.{get_or_read}
use Rattle.go_word.specs.Neighbours.{neighbours}
use Rattle.go_rule.specs.Views.{frame_of}
use Rattle.go_turns.specs.Holding.{Takes, MayGive, Gives}
use Rattle.go_turns.proofs.Handing.{told_of, view_is}
use Rattle.go_turns.proofs.Going.{gone_nowhere, gave_back}
use Rattle.go_turns.proofs.Unchanged.{may_return}
use Rattle.go_piece.specs.Pieces.{OnShard}
use Rattle.go_piece.specs.Meanings.{meaning_of}
use Rattle.go_views.specs.contracts.live_view.LiveView.{the_view}
use Rattle.go_views.specs.Pins.{pin_of}
use Rattle.go_views.specs.Reading.{HasPinned, Lists}
use Rattle.go_views.specs.Views.{View, IsView}
use Rattle.go_views.proofs.Reading.{can_list, lists_view, is_turn}
use Rattle.go_views.proofs.live_view.LiveView.neighbours.Goals as goal

pub list_in-listed-requires : goal.list_in-listed-requires
list_in-listed-requires g c =
    let m = meaning_of g.D.Disk.device in
    let ring = c.args.ring.now in
    let f = frame_of ring.table.shared.key in
    let me = c.args.seat.now.me in
    let now = c.take-hold.new.seat.me in
    let v = c.args.v in
    let count = c.shards.result in
    let place = v % count in
    let part = c.take-hold.result.part in
    let takes : Takes m f place part me now = c.take-hold.ensures.takes.1 in
    let old : View = the_view c.self.inside in
    let is : IsView ring.shards old me.0 = subst (λ (z : View). IsView ring.shards z me.0) (sym c.self.view_is) c.requires.view in
    let turn = is_turn v count ring.shards old c.shards.ensures.some (c.self.invariant.shards ∙ sym c.shards.ensures.shards) is.shards_are in
    let within = turn.0 in
    let shards = ring.shards_is in
    let pin : c.index.result.now ≡ (pin_of old.names old.archived place).id = get_or_read old.names place c.index.result.now turn.2 c.index.ensures 0 in
    subst (OnShard (HasPinned v (record { id = c.index.result.now; front = old.archived }))) (sym c.part.ensures)
    (subst (λ (i : ℕ). OnShard (HasPinned v (record { id = i; front = old.archived })) part) (sym pin)
    (can_list g.D.Disk.device f me.0 ring.shards place v old (omega arith) takes.turn.about.0 (omega arith) turn.1 c.requires.below is part
    (told_of m f place part me now takes)))

pub give-requires-clause-may : goal.give-requires-clause-may
give-requires-clause-may g c =
    let m = meaning_of g.D.Disk.device in
    let ring = c.args.ring.now in
    let f = frame_of ring.table.shared.key in
    let me = c.args.seat.now.me in
    let now = c.take-hold.new.seat.me in
    let part = c.take-hold.result.part in
    let count = c.shards.result in
    let place = c.args.v % count in
    let takes : Takes m f place part me now = c.take-hold.ensures.takes.1 in
    let old : View = the_view c.self.inside in
    let is : IsView ring.shards old me.0 = subst (λ (z : View). IsView ring.shards z me.0) (sym c.self.view_is) c.requires.view in
    let turn = is_turn c.args.v count ring.shards old c.shards.ensures.some (c.self.invariant.shards ∙ sym c.shards.ensures.shards) is.shards_are in
    let within = turn.0 in
    let shards = ring.shards_is in
    subst (λ (k : ℕ). MayGive m f k part now) (sym c.take-hold.ensures.takes.0)
    (may_return m f place part me now now takes refl refl refl (λ file gone. absurd (omega arith)))

pub returns : goal.returns
returns g c =
    let m = meaning_of g.D.Disk.device in
    let ring = c.args.ring.now in
    let f = frame_of ring.table.shared.key in
    let me = c.args.seat.now.me in
    let now = c.take-hold.new.seat.me in
    let after = c.give.new.seat.me in
    let v = c.args.v in
    let count = c.shards.result in
    let place = v % count in
    let part = c.take-hold.result.part in
    let takes : Takes m f place part me now = c.take-hold.ensures.takes.1 in
    let gives = subst (λ (k : ℕ). Gives m k part now after) c.take-hold.ensures.takes.0 c.give.ensures.gives in
    let back = gave_back m f place part part me now now after takes (gone_nowhere f now.0) refl gives (λ shard. refl) in
    let old : View = the_view c.self.inside in
    let is : IsView ring.shards old me.0 = subst (λ (z : View). IsView ring.shards z me.0) (sym c.self.view_is) c.requires.view in
    let turn = is_turn v count ring.shards old c.shards.ensures.some (c.self.invariant.shards ∙ sym c.shards.ensures.shards) is.shards_are in
    let within = turn.0 in
    let shards = ring.shards_is in
    let result = c.list_in-listed.result in
    let list = c.list_in-listed.new.out.items in
    let pin : c.index.result.now ≡ (pin_of old.names old.archived place).id = get_or_read old.names place c.index.result.now turn.2 c.index.ensures 0 in
    let listed =
    subst (OnShard (Lists v (record { id = c.index.result.now; front = old.archived }) c.of.result.now result list)) c.part.ensures c.list_in-listed.ensures
    in
    let pinned = subst (λ (i : ℕ). OnShard (Lists v (record { id = i; front = old.archived }) c.of.result.now result list) part) pin listed in
    let worded = subst (λ (l : List ℕ). OnShard (Lists v (pin_of old.names old.archived place) l result list) part) c.of.ensures pinned in
    record {
      stays = (c.give.ensures.stays.0 ∙ c.take-hold.ensures.stays.0, c.give.ensures.stays.1 ∙ c.take-hold.ensures.stays.1);
      hand = back.1;
      on = back.0;
      told = ap (λ z. z.0.told) (gives part me.0.stake.notes me.1 takes.holds) ∙ ap (λ d. d.told) (view_is m f place part me now takes);
      list = subst (λ (z : View). OnOk result (list ≡ neighbours (take z.front me.0.told.seen) v)) c.self.view_is
          (lists_view g.D.Disk.device f me.0 ring.shards place v old (omega arith) takes.turn.about.0 (omega arith) turn.1 c.requires.below is part result list
          (told_of m f place part me now takes) worded);
    }
