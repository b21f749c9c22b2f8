-- A shard whose pins were changed goes back, and what its seat knows of it.
use Rattle.std.proofs.Common.{◌≡◌, ℕ, ◌+◌, ◌<◌, ◌≤◌, ◌/◌, ◌%◌, true, List, ◌++◌, length, take, take-take, sym, refl, ap, ◌∙◌, arith, subst}
use Rattle.std.specs.Prelude.{All, Contains, find, slice_index, Some, Result, Ok, Err, MatchResult}
use Rattle.std.proofs.lemmas.Option.{same_Some}
use Rattle.std.proofs.lemmas.List.Elements.{All-contains, All-weaker, All-contains_itself}
use Rattle.go_word.specs.declared.pin.Pin.{Pin}
use Rattle.go_word.specs.Log.{raw}
use Rattle.go_word.specs.Pins.{is_named, has_name}
use Rattle.go_core.specs.Frame.{Frame}
use Rattle.go_core.specs.Parts.{IsShardPlace}
use Rattle.go_core.proofs.PinCalls.{all_found}
use Rattle.go_core.proofs.PinLaws.{has-in, has-pin}
use Rattle.go_disk.specs.Device.{Device}
use Rattle.go_shard.specs.ShardState.{ShardState, IsOf, counts_of}
use Rattle.go_rule.specs.declared.view.SeatView.{SeatView}
use Rattle.go_rule.specs.Rule.{pins_at}
use Rattle.go_rule.specs.Turns.{IsTaken, CanGive}
use Rattle.go_rule.proofs.Lists.{is_number}
use Rattle.go_piece.specs.declared.piece.Piece.{Piece}
use Rattle.go_piece.specs.declared.piece.Piece.TheVariants.{Shard, Log, Spent}
use Rattle.go_piece.specs.Pieces.{OnShard}
use Rattle.go_piece.specs.Meanings.{meaning_of, IsShardInHand}
use Rattle.go_piece.proofs.ShardCalls.{shard_pinned}
use Rattle.go_piece.proofs.Unchanged.{shard_unchanged}
use Rattle.go_views.specs.PlaceTurns.{IsAdded, CanShift}
use Rattle.go_views.specs.Settling.{AddsCounts, AreRaw}

-- a shard with one pin more is that with these pins
added_is : (old new : ShardState) (pins : List Pin) → new.pins ≡ pins → new ≡ record old { pins = new.pins } → new ≡ record old { pins = pins }
added_is old new pins are is = is ∙ ap (λ ps. record old { pins = ps }) are

-- what became of its pins, whether it was pinned or refused
pub pinned_pins : {E : Type 0} (result : Result ℕ E) (old new : ShardState)
    → MatchResult result (λ name. IsAdded name old.cut old.pins new.pins × (new ≡ record old { pins = new.pins })) (λ _. new ≡ old)
    → MatchResult result (λ name. (front : ℕ) × IsAdded name front old.pins new.pins) (λ _. new.pins ≡ old.pins)
pinned_pins (Ok name) old new added = (old.cut, added.0)
pinned_pins (Err refused) old new same = ap (λ s. s.pins) same

module _ {D : Type 0} (device : Device D) (f : Frame) (d : SeatView (Piece D)) (place : ℕ) where
  -- a shard that was pinned at its cut, or was refused, may go back
  pub pinned_either : {E : Type 0} (result : Result ℕ E) (old new : ShardState) → IsShardPlace f place → IsShardInHand device d.about place old
      → MatchResult result (λ name. IsAdded name old.cut old.pins new.pins × (new ≡ record old { pins = new.pins })) (λ _. new ≡ old)
      → CanGive (meaning_of device) f d place (Shard old) (Shard new)
  pinned_either (Ok name) old new here held added =
      shard_pinned device f d place old new name old.cut here held added.0.fresh refl (added_is old new _ added.0.is added.1)
  pinned_either (Err refused) old new here held same =
      subst (λ s. CanGive (meaning_of device) f d place (Shard old) (Shard s)) (sym same) (shard_unchanged device f d place old here held)

  -- of a shard that it took, a seat may move a pin of its own to the archived front that it knows, where its pins are at most there
  pub can_shift : (name : ℕ) (part : Piece D) → IsShardPlace f place → d.about.shards + 5 ≡ f.base → IsTaken (meaning_of device) f d place part
      → has_name name (pins_at place d) ≡ true → All (λ pin. pin.front ≤ d.core.archived) (pins_at place d) → OnShard (CanShift name d.core.archived) part
  can_shift name (Shard shard) here base taken named most =
      let of = taken.shard here in
      let mine = has-pin name (pins_at place d) named in
      let there : Contains shard.pins mine.0 = All-contains (Contains shard.pins) (pins_at place d) mine.0 of.pins mine.1 in
      let found : (pin : Pin) → Contains shard.pins pin → find (is_named pin.id) shard.pins ≡ Some pin =
      λ pin within. All-contains (λ q. find (is_named q.id) shard.pins ≡ Some q) shard.pins pin (all_found shard.pins of.in_hand.names) within
      in
      let low = All-contains (λ pin. shard.cut ≤ pin.front) shard.pins mine.0 of.in_hand.cut_pins there in
      let high = All-contains (λ pin. pin.front ≤ d.core.archived) (pins_at place d) mine.0 most mine.1 in
      let uncut : shard.cut ≤ d.core.archived = omega arith in
      record {
        named = ap (λ n. has_name n shard.pins) (sym mine.2) ∙ has-in shard.pins mine.0 there;
        upwards = All-weaker (Contains shard.pins) (λ pin. is_named name pin ≡ true → pin.front ≤ d.core.archived)
            (λ pin within is.
            let same : mine.0 ≡ pin =
            same_Some mine.0 pin
            (sym (found mine.0 there) ∙ ap (λ n. find (is_named n) shard.pins) (mine.2 ∙ sym (is_number pin.id name is)) ∙ found pin within)
            in
            subst (λ p. p.front ≤ d.core.archived) same high) shard.pins (All-contains_itself shard.pins);
        kept = of.kept uncut;
        uncut = uncut;
      }
  can_shift name (Log kept) here base taken named most = let at = taken.fits.0 in absurd (omega arith)
  can_shift name (Spent disk front) here base taken named most = let at = taken.fits.0 in absurd (omega arith)

  -- the counts of a shard that it took, at the archived front that it knows and has seen the log up to, are those of the log
  pub counts_raw : (name : ℕ) (part : Piece D) (before after : List ℕ) → IsShardPlace f place → d.about.shards + 5 ≡ f.base
      → IsTaken (meaning_of device) f d place part → OnShard (CanShift name d.core.archived) part → d.core.archived ≤ length d.told.seen
      → OnShard (AddsCounts d.core.archived before after) part
      → (counts : List ℕ) × (after ≡ before ++ counts) × AreRaw d.about.shards d.about.vertices place (take d.core.archived d.told.seen) counts
  counts_raw name (Shard shard) before after here base taken can seen adds =
      let archived = d.core.archived in
      let log = taken.log in
      let fits = taken.fits.1 in
      let reaches = (taken.shard here).in_hand.front_from in
      let same : take archived (take shard.front log) ≡ take archived d.told.seen =
      take-take archived shard.front log reaches ∙ sym (take-take archived (length d.told.seen) log seen) ∙ sym (ap (take archived) taken.over.seen)
      in (
        counts_of shard archived,
        adds.are,
        record {
          places = adds.places ∙ ap (λ n. n / shard.shards + 1) fits.vertices_are ∙ ap (λ n. d.about.vertices / n + 1) fits.shards_are;
          each = λ v less turn.
              let own : IsOf shard v =
              record {
                within = subst (λ n. v < n) (sym fits.vertices_are) less;
                turn = ap (λ n. v % n) fits.shards_are ∙ turn ∙ sym fits.index_is;
              } in
              ap (λ n. slice_index (counts_of shard archived) (v / n)) (sym fits.shards_are)
              ∙ adds.each v own
              ∙ taken.over.stands.counts v archived own can.kept can.uncut
              ∙ ap (λ l. raw l v) same;
        },
      )
  counts_raw name (Log kept) before after here base taken can seen adds = absurd adds
  counts_raw name (Spent disk front) before after here base taken can seen adds = absurd adds

  -- a shard that it took has each pin of its own
  pub has_pin : (name : ℕ) (part : Piece D) → IsShardPlace f place → d.about.shards + 5 ≡ f.base → IsTaken (meaning_of device) f d place part
      → has_name name (pins_at place d) ≡ true → OnShard (λ shard. has_name name shard.pins ≡ true) part
  has_pin name (Shard shard) here base taken named =
      let of = taken.shard here in
      let mine = has-pin name (pins_at place d) named in
      ap (λ n. has_name n shard.pins) (sym mine.2)
      ∙ has-in shard.pins mine.0 (All-contains (Contains shard.pins) (pins_at place d) mine.0 of.pins mine.1)
  has_pin name (Log kept) here base taken named = let at = taken.fits.0 in absurd (omega arith)
  has_pin name (Spent disk front) here base taken named = let at = taken.fits.0 in absurd (omega arith)
