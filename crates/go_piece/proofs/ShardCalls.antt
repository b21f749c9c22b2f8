-- For callers that give a shard back: what each call of a shard made of it is what the ring asks of what comes back.
use Rattle.std.proofs.Common.{◌≡◌, ℕ, ◌-◌, ◌≤◌, true, false, List, [], ◌∷◌, ◌++◌, map, filter, length, take, drop, refl, sym, ap, ◌∙◌, arith, subst}
use Rattle.std.specs.Prelude.{◌%◌, ◌==◌, All, get_or, min, not, if◌then◌else◌}
use Rattle.std.proofs.lemmas.List.{length-take, length-drop}
use Rattle.std.proofs.lemmas.List.Elements.{All-weaker, All-take, All-drop}
use Rattle.go_word.specs.declared.edge.Edge.{Edge}
use Rattle.go_word.specs.declared.pin.Pin.{Pin}
use Rattle.go_word.specs.Log.{IsWithin}
use Rattle.go_word.specs.Pins.{is_named, has_name}
use Rattle.go_core.specs.Frame.{Frame}
use Rattle.go_core.specs.Parts.{IsShardPlace, KeepsPins, reach_of}
use Rattle.go_core.proofs.PinCalls.{pins_unchanged, pins_added, pins_moved, pins_removed}
use Rattle.go_disk.specs.Device.{Device}
use Rattle.go_shard.specs.ShardState.{ShardState, Keeps}
use Rattle.go_shard.specs.Split.{IsSplit}
use Rattle.go_shard.specs.Stands.{Stands, GoesOn, HasGrown, HasForgotten}
use Rattle.go_rule.specs.declared.view.SeatView.{SeatView}
use Rattle.go_rule.specs.Rule.{IsBelow}
use Rattle.go_rule.specs.Turns.{owns_at, IsTaken, CanGive}
use Rattle.go_piece.specs.declared.piece.Piece.{Piece}
use Rattle.go_piece.specs.declared.piece.Piece.TheVariants.{Shard}
use Rattle.go_piece.specs.Pieces.{state_in}
use Rattle.go_piece.specs.Meanings.{meaning_of, stretch, IsShardInHand}
use Rattle.go_piece.proofs.Stretches.{stretched}
use Rattle.go_piece.proofs.Unchanged.{shard_given}

-- pins are no part of what a shard stands for
stands_pinned : (shard : ShardState) (pins : List Pin) (log : List Edge) → Stands shard log → Stands (record shard { pins = pins }) log
stands_pinned shard pins log stands = record {
  whole = stands.whole;
  ids = stands.ids;
  cut = stands.cut;
  keeps_front = stands.keeps_front;
  keeps_cut = stands.keeps_cut;
  lanes = λ s is. stands.lanes s (record { within = is.within; turn = is.turn });
  counts = λ s f is kept from. stands.counts s f (record { within = is.within; turn = is.turn }) kept from;
}

-- what is between vertices of a graph is
within_below : (vertices : ℕ) (edges : List Edge) → All (IsBelow vertices) edges → All (IsWithin vertices) edges
within_below vertices edges below = All-weaker (IsBelow vertices) (IsWithin vertices) (λ e is. record { source = is.src; destination = is.dst }) edges below

module _ {D : Type 0} (device : Device D) (f : Frame) (d : SeatView (Piece D)) (place : ℕ) where
  -- what a seat has seen is between vertices of the graph
  pub seen_below : (piece : Piece D) → IsTaken (meaning_of device) f d place piece → All (IsBelow d.about.vertices) d.told.seen
  seen_below piece taken =
      subst (All (IsBelow d.about.vertices)) (sym taken.over.seen) (All-take (IsBelow d.about.vertices) (length d.told.seen) taken.log taken.over.below)

  -- the log goes on with the shard's batch of what its seat has seen behind its front, split among the shards
  pub batch_goes_on : (shard : ShardState) (front : ℕ) (batches : List (List Edge)) → IsShardInHand device d.about place shard → shard.front ≤ front
      → front ≤ length d.told.seen → All (IsBelow d.about.vertices) d.told.seen → IsSplit d.about.shards (stretch shard.front front d.told.seen) batches
      → GoesOn shard (stretch shard.front front d.told.seen) (get_or batches place []) front
  batch_goes_on shard front batches held from within below split =
      let more = stretch shard.front front d.told.seen in
      let whose = held.fits.1 in
      let long : length more ≡ min (front - shard.front) (length (drop shard.front d.told.seen)) =
      length-take (front - shard.front) (drop shard.front d.told.seen)
      in
      let rest : length (drop shard.front d.told.seen) ≡ length d.told.seen - shard.front = length-drop shard.front d.told.seen in
      let ids = within_below d.about.vertices more
      (All-take (IsBelow d.about.vertices) (front - shard.front) (drop shard.front d.told.seen)
      (All-drop (IsBelow d.about.vertices) shard.front d.told.seen below))
      in
      record {
        reach = omega arith;
        ids = subst (λ v. All (IsWithin v) more) (sym whose.vertices_are) ids;
        own =
            ap (λ n. filter (λ (e : Edge). e.src % n == shard.index) more) whose.shards_are
            ∙ ap (λ i. filter (λ (e : Edge). e.src % d.about.shards == i) more) whose.index_is
            ∙ sym (split.each place held.fits.0);
      }

  -- a shard that took in what its seat has seen behind its front, up to what the seat may bring it to
  pub shard_appended : (old new : ShardState) (batch : List Edge) (front : ℕ) → IsShardPlace f place → IsShardInHand device d.about place old
      → ((log more : List Edge) → Stands old log → GoesOn old more batch front → Stands new (log ++ more)) → HasGrown front batch old new
      → GoesOn old (stretch old.front front d.told.seen) batch front → front ≤ reach_of d.core
      → CanGive (meaning_of device) f d place (Shard old) (Shard new)
  shard_appended old new batch front here held stands grown goes to =
      let front_is : new.front ≡ front = ap (λ s. s.front) grown.same in
      let cut_is : new.cut ≡ old.cut = ap (λ s. s.cut) grown.same in
      let pins_are : new.pins ≡ old.pins = ap (λ s. s.pins) grown.same in
      let reach = goes.reach in
      let fits = held.fits.1 in
      shard_given device f d place old new here (
        held.fits.0,
        record {
          index_is = ap (λ s. s.index) grown.same ∙ fits.index_is;
          shards_are = ap (λ s. s.shards) grown.same ∙ fits.shards_are;
          vertices_are = ap (λ s. s.vertices) grown.same ∙ fits.vertices_are;
        },
      )
      (λ log begins was.
      subst (Stands new) (stretched old.front front log d.told.seen begins goes.reach ∙ ap (λ n. take n log) (sym front_is))
      (stands (take old.front log) (stretch old.front front d.told.seen) was goes))
      (record {
        successor = record {
          onward = record { front_from = omega arith; front_to = omega arith; cut_from = omega arith; cut_to = omega arith };
          keeps = pins_unchanged d.core.archived (owns_at place d) (state_in {D = D} (Shard old)) (state_in {D = D} (Shard new)) pins_are
              (All-weaker (λ (pin : Pin). old.cut ≤ pin.front) (λ (pin : Pin). new.cut ≤ pin.front) (λ pin low. omega arith) old.pins held.cut_pins)
              held.names;
        };
        own = subst (Keeps new) (sym front_is) grown.keeps_front;
        kept = λ n cut kept. grown.keeps n kept;
      })

  -- a shard that was compacted up to a front, no further than the archived one that its seat knows and than each pin
  pub shard_compacted : (old new : ShardState) (front : ℕ) → IsShardPlace f place → IsShardInHand device d.about place old
      → ((log : List Edge) → Stands old log → Stands new log) → HasForgotten front old new
      → old.cut ≤ front → front ≤ d.core.archived → All (λ pin. front ≤ pin.front) old.pins
      → CanGive (meaning_of device) f d place (Shard old) (Shard new)
  shard_compacted old new front here held stands forgot from to pinned =
      let front_is : new.front ≡ old.front = ap (λ s. s.front) forgot.same in
      let cut_is : new.cut ≡ front = ap (λ s. s.cut) forgot.same in
      let pins_are : new.pins ≡ old.pins = ap (λ s. s.pins) forgot.same in
      let fits = held.fits.1 in
      shard_given device f d place old new here (
        held.fits.0,
        record {
          index_is = ap (λ s. s.index) forgot.same ∙ fits.index_is;
          shards_are = ap (λ s. s.shards) forgot.same ∙ fits.shards_are;
          vertices_are = ap (λ s. s.vertices) forgot.same ∙ fits.vertices_are;
        },
      )
      (λ log begins was. subst (λ n. Stands new (take n log)) (sym front_is) (stands (take old.front log) was))
      (record {
        successor = record {
          onward = record { front_from = omega arith; front_to = omega arith; cut_from = omega arith; cut_to = omega arith };
          keeps = pins_unchanged d.core.archived (owns_at place d) (state_in {D = D} (Shard old)) (state_in {D = D} (Shard new)) pins_are
              (All-weaker (λ (pin : Pin). front ≤ pin.front) (λ (pin : Pin). new.cut ≤ pin.front) (λ pin low. omega arith) old.pins pinned) held.names;
        };
        own = (stands held.log held.stands).keeps_front;
        kept = λ n cut kept. forgot.keeps n (omega arith) kept;
      })

  -- a shard with other pins, where they stand as they may
  repinned : (old new : ShardState) (pins : List Pin) → IsShardPlace f place → IsShardInHand device d.about place old → new ≡ record old { pins = pins }
      → KeepsPins d.core.archived (owns_at place d) (state_in {D = D} (Shard old)) (state_in {D = D} (Shard (record old { pins = pins })))
      → CanGive (meaning_of device) f d place (Shard old) (Shard new)
  repinned old new pins here held is keeps =
      let fits = held.fits.1 in
      subst (λ (s : ShardState). CanGive (meaning_of device) f d place (Shard old) (Shard s)) (sym is)
      (shard_given device f d place old (record old { pins = pins }) here
      (held.fits.0, record { index_is = fits.index_is; shards_are = fits.shards_are; vertices_are = fits.vertices_are })
      (λ log begins was. stands_pinned old pins (take old.front log) was)
      (record {
        successor = record {
          onward = record { front_from = omega arith; front_to = omega arith; cut_from = omega arith; cut_to = omega arith };
          keeps = keeps;
        };
        own = held.stands.keeps_front;
        kept = λ n cut kept. kept;
      }))

  -- one with a pin more, at its cut, under a name that was none's
  pub shard_pinned : (old new : ShardState) (id front : ℕ) → IsShardPlace f place → IsShardInHand device d.about place old → has_name id old.pins ≡ false
      → front ≡ old.cut → new ≡ record old { pins = old.pins ++ record { id = id; front = front } ∷ [] }
      → CanGive (meaning_of device) f d place (Shard old) (Shard new)
  shard_pinned old new id front here held fresh at_cut is =
      let pin : Pin = record { id = id; front = front } in
      let pins = old.pins ++ pin ∷ [] in
      repinned old new pins here held is
      (pins_added d.core.archived (owns_at place d) (state_in {D = D} (Shard old)) (state_in {D = D} (Shard (record old { pins = pins }))) pin refl fresh at_cut
      (omega arith) held.cut_pins held.names)

  -- one whose pin of a name that is the seat's was moved upwards, no further than the archived front that the seat knows
  pub shard_pin_moved : (old new : ShardState) (id front : ℕ) → IsShardPlace f place → IsShardInHand device d.about place old → owns_at place d id ≡ true
      → All (λ pin. is_named id pin ≡ true → pin.front ≤ front) old.pins → front ≤ d.core.archived
      → new ≡ record old { pins = map (λ pin. if is_named id pin then record { id = pin.id; front = front } else pin) old.pins }
      → CanGive (meaning_of device) f d place (Shard old) (Shard new)
  shard_pin_moved old new id front here held mine up to is =
      let pins = map (λ (pin : Pin). if is_named id pin then record { id = pin.id; front = front } else pin) old.pins in
      repinned old new pins here held is
      (pins_moved d.core.archived (owns_at place d) (state_in {D = D} (Shard old)) (state_in {D = D} (Shard (record old { pins = pins }))) id front refl mine up
      to (omega arith) held.cut_pins held.names)

  -- one without the pin of a name that is the seat's
  pub shard_unpinned : (old new : ShardState) (id : ℕ) → IsShardPlace f place → IsShardInHand device d.about place old → owns_at place d id ≡ true
      → new ≡ record old { pins = filter (λ pin. not (is_named id pin)) old.pins } → CanGive (meaning_of device) f d place (Shard old) (Shard new)
  shard_unpinned old new id here held mine is =
      let pins = filter (λ (pin : Pin). not (is_named id pin)) old.pins in
      repinned old new pins here held is
      (pins_removed d.core.archived (owns_at place d) (state_in {D = D} (Shard old)) (state_in {D = D} (Shard (record old { pins = pins }))) id refl mine
      (omega arith) held.cut_pins held.names)
