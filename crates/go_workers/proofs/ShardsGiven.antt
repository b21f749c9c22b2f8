-- Shards that are given back: brought on over a run that the archiver has read, or compacted.
use Rattle.std.proofs.Common.{◌≡◌, ℕ, ◌+◌, ◌-◌, ◌^◌, ◌<◌, ◌≤◌, List, length, take, drop, filter, refl, sym, ap, ◌∙◌, ⊎_elim, arith, subst}
use Rattle.std.specs.Prelude.{All, if◌then◌else◌, OnErr, OnOk, Result, Ok, Err}
use Rattle.std.proofs.lemmas.List.{drop-drop, drop-take, length-drop}
use Rattle.std.proofs.lemmas.List.Elements.{All-weaker, All-take, All-drop}
use Rattle.go_word.specs.declared.edge.Edge.{Edge}
use Rattle.go_word.specs.Log.{IsWithin}
use Rattle.go_core.specs.Frame.{Frame}
use Rattle.go_core.specs.Parts.{IsShardPlace, reach_of}
use Rattle.go_disk.specs.Device.{Device}
use Rattle.go_shard.specs.ShardState.{ShardState, is_own}
use Rattle.go_shard.specs.Split.{IsSplit}
use Rattle.go_shard.specs.Stands.{GoesOn}
use Rattle.go_rule.specs.declared.view.SeatView.{SeatView}
use Rattle.go_rule.specs.Rule.{IsBelow}
use Rattle.go_rule.specs.Turns.{IsTaken, CanGive}
use Rattle.go_piece.specs.declared.piece.Piece.{Piece}
use Rattle.go_piece.specs.declared.piece.Piece.TheVariants.{Shard, Log, Spent}
use Rattle.go_piece.specs.Pieces.{OnShard}
use Rattle.go_piece.specs.Meanings.{meaning_of, stretch, IsShardInHand}
use Rattle.go_piece.proofs.Unchanged.{shard_unchanged}
use Rattle.go_piece.proofs.ShardCalls.{seen_below, shard_appended, shard_compacted}
use Rattle.go_workers.specs.Bringing.{CanBringOn, IsBroughtOn, IsCompactedTo}
use Rattle.go_workers.specs.Turns.{MayBringOn}

-- what is behind a position of a stretch is a stretch
pub stretch_rest : (from k upto : ℕ) (seen : List Edge) → from ≤ k → k ≤ upto → drop (k - from) (stretch from upto seen) ≡ stretch k upto seen
stretch_rest from k upto seen low high =
    let whole : upto - from ≡ (k - from) + (upto - k) = omega arith in
    let at : from + (k - from) ≡ k = omega arith in
    ap (λ n. drop (k - from) (take n (drop from seen))) whole
    ∙ drop-take (k - from) (upto - k) (drop from seen)
    ∙ ap (take (upto - k)) (drop-drop (k - from) from seen)
    ∙ ap (λ n. take (upto - k) (drop n seen)) at

module _ {D : Type 0} (device : Device D) (f : Frame) (d : SeatView (Piece D)) (place : ℕ) where
  -- a shard may be brought on over a run that the archiver has read
  pub can_bring : (from : ℕ) (run : List Edge) (lists : List (List Edge)) (piece : Piece D) → IsShardPlace f place → d.about.shards + 5 ≡ f.base
      → IsTaken (meaning_of device) f d place piece → MayBringOn from run d → length lists ≡ d.about.shards → length lists < 2 ^ 32
      → IsSplit d.about.shards run lists → OnShard (CanBringOn place from run lists) piece
  can_bring from run lists (Shard shard) here base taken may count few split =
      let whose = taken.fits.1 in
      let hand = (taken.shard here).in_hand.front_from in
      let archived = may.archived in
      let reached = (taken.shard here).reached may.archives in
      let no_more = may.no_more in
      let below = seen_below device f d place (Shard shard) taken in
      let upto = from + length run in
      let ids : All (IsWithin d.about.vertices) (stretch from upto d.told.seen) =
      All-weaker (IsBelow d.about.vertices) (IsWithin d.about.vertices) (λ e is. record { source = is.src; destination = is.dst })
      (stretch from upto d.told.seen)
      (All-take (IsBelow d.about.vertices) (upto - from) (drop from d.told.seen) (All-drop (IsBelow d.about.vertices) from d.told.seen below)) in
      record {
        whose = record { index_is = whose.index_is; shards_are = whose.shards_are ∙ sym count; vertices_are = refl };
        split = subst (λ n. IsSplit n run lists) (sym count) split;
        index = (omega arith, few);
        reaches = omega arith;
        within = omega arith;
        small = may.read.small;
        ids = subst (λ v. All (IsWithin v) run) (sym whose.vertices_are) (subst (All (IsWithin d.about.vertices)) (sym may.read.run_is) ids);
      }
  can_bring from run lists (Log kept) here base taken may count few split = let at = taken.fits.0 in absurd (omega arith)
  can_bring from run lists (Spent disk front) here base taken may count few split = let at = taken.fits.0 in absurd (omega arith)

  -- the log goes on with what a shard took in over such a run
  run_goes_on : (from : ℕ) (run : List Edge) (lists : List (List Edge)) (old : ShardState) → MayBringOn from run d → CanBringOn place from run lists old
      → GoesOn old (stretch old.front (from + length run) d.told.seen) (filter (is_own old) (drop (old.front - from) run)) (from + length run)
  run_goes_on from run lists old may can =
      let upto = from + length run in
      let more : drop (old.front - from) run ≡ stretch old.front upto d.told.seen =
      ap (drop (old.front - from)) may.read.run_is ∙ stretch_rest from old.front upto d.told.seen can.reaches can.within in
      let left : length (drop (old.front - from) run) ≡ length run - (old.front - from) = length-drop (old.front - from) run in
      let reaches = can.reaches in
      let within = can.within in
      record {
        reach = let long : length (stretch old.front upto d.told.seen) ≡ length (drop (old.front - from) run) = ap length (sym more) in omega arith;
        ids = subst (All (IsWithin old.vertices)) more (All-drop (IsWithin old.vertices) (old.front - from) run can.ids);
        own = ap (filter (is_own old)) (sym more);
      }

  -- so it may be given back
  pub brought_can : (from : ℕ) (run : List Edge) (lists : List (List Edge)) (old new : ShardState) → IsShardPlace f place
      → IsShardInHand device d.about place old → MayBringOn from run d → CanBringOn place from run lists old
      → IsBroughtOn (drop (old.front - from) run) (from + length run) old new
      → CanGive (meaning_of device) f d place (Shard old) (Shard new)
  brought_can from run lists old new here held may can is =
      let reach : reach_of d.core ≡ d.core.taken = ap (λ b. if b then d.core.taken else 0) may.archives in
      let taken = may.read.taken in
      ⊎_elim
      (λ same. subst (λ s. CanGive (meaning_of device) f d place (Shard old) (Shard s)) (sym same.1) (shard_unchanged device f d place old here held))
      (λ grown.
      shard_appended device f d place old new (filter (is_own old) (drop (old.front - from) run)) (from + length run) here held grown.stands grown.grown
      (run_goes_on from run lists old may can) (omega arith)) is

  -- and so may one that was compacted no further than the archived front that the seat knows
  pub compacted_can : (archived : ℕ) (old new : ShardState) → IsShardPlace f place → IsShardInHand device d.about place old → archived ≤ d.core.archived
      → IsCompactedTo archived old new → CanGive (meaning_of device) f d place (Shard old) (Shard new)
  compacted_can archived old new here held known is =
      let within = is.settled.within in
      shard_compacted device f d place old new is.front here held is.compacted.stands is.compacted.forgotten is.settled.uncut (omega arith) is.settled.pinned

  -- one that was refused is as it was
  pub refused_can : (old new : ShardState) → IsShardPlace f place → IsShardInHand device d.about place old → new ≡ old
      → CanGive (meaning_of device) f d place (Shard old) (Shard new)
  refused_can old new here held same =
      subst (λ s. CanGive (meaning_of device) f d place (Shard old) (Shard s)) (sym same) (shard_unchanged device f d place old here held)

  -- whether that was refused or not
  pub brought_either : {A B : Type 0} (result : Result A B) (from : ℕ) (run : List Edge) (lists : List (List Edge)) (old new : ShardState) → IsShardPlace f place
      → IsShardInHand device d.about place old → MayBringOn from run d → CanBringOn place from run lists old
      → OnOk result (IsBroughtOn (drop (old.front - from) run) (from + length run) old new) → OnErr result (new ≡ old)
      → CanGive (meaning_of device) f d place (Shard old) (Shard new)
  brought_either (Ok done) from run lists old new here held may can ok err = brought_can from run lists old new here held may can ok
  brought_either (Err why) from run lists old new here held may can ok err = refused_can old new here held err

  pub compacted_either : {A B : Type 0} (result : Result A B) (archived : ℕ) (old new : ShardState) → IsShardPlace f place
      → IsShardInHand device d.about place old → archived ≤ d.core.archived → OnOk result (IsCompactedTo archived old new) → OnErr result (new ≡ old)
      → CanGive (meaning_of device) f d place (Shard old) (Shard new)
  compacted_either (Ok done) archived old new here held known ok err = compacted_can archived old new here held known ok
  compacted_either (Err why) archived old new here held known ok err = refused_can old new here held err

-- a shard that was brought on has come to the front, with its pins
pub brought_front : (more : List Edge) (front : ℕ) (old new : ShardState) → IsBroughtOn more front old new → (new.front ≡ front) × (new.pins ≡ old.pins)
brought_front more front old new is =
    ⊎_elim (λ same. (ap (λ s. s.front) same.1 ∙ sym same.0, ap (λ s. s.pins) same.1))
    (λ taken. (ap (λ s. s.front) taken.grown.same, ap (λ s. s.pins) taken.grown.same)) is

-- and whether it was refused or not its pins are as they were
pub brought_pins : {A B : Type 0} (result : Result A B) (more : List Edge) (front : ℕ) (old new : ShardState) → OnOk result (IsBroughtOn more front old new)
    → OnErr result (new ≡ old) → new.pins ≡ old.pins
brought_pins (Ok done) more front old new ok err = (brought_front more front old new ok).1
brought_pins (Err why) more front old new ok err = ap (λ s. s.pins) err

pub compacted_pins : {A B : Type 0} (result : Result A B) (archived : ℕ) (old new : ShardState) → OnOk result (IsCompactedTo archived old new)
    → OnErr result (new ≡ old) → new.pins ≡ old.pins
compacted_pins (Ok done) archived old new ok err = ap (λ s. s.pins) ok.compacted.forgotten.same
compacted_pins (Err why) archived old new ok err = ap (λ s. s.pins) err
