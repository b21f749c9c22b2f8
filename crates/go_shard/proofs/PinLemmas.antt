-- Lemmas on a shard whose pins are moved or taken away.
use Rattle.std.proofs.Common.{◌≡◌, ℕ, ◌≤◌, Bool, true, false, List, [], ◌∷◌, filter, map, All, refl, ap, arith, if◌then◌else◌}
use Rattle.std.specs.Prelude.{not}
use Rattle.std.proofs.lemmas.List.Elements.{All-head, All-tail, All-cons, All-filter}
use Rattle.go_word.specs.declared.pin.Pin.{Pin}
use Rattle.go_word.specs.Pins.{is_named}
use Rattle.go_shard.specs.ShardState.{ShardState, Keeps, IsPinned, IsSound}

-- a pin that is moved upwards, where it has the name
abbrev pub moved_to : ℕ → ℕ → Pin → Pin
moved_to id front pin = if is_named id pin then record { id = pin.id; front = front } else pin

moved_pin : (shard : ShardState) (id front : ℕ) (pin : Pin) → Keeps shard front → (is_named id pin ≡ true → pin.front ≤ front) → IsPinned shard pin →
    IsPinned shard (moved_to id front pin)
moved_pin shard id front pin kept up held = by (is_named id pin) refl where
  by : (b : Bool) → is_named id pin ≡ b → IsPinned shard (if b then record { id = pin.id; front = front } else pin)
  by true is = record { kept = kept; uncut = omega (arith, held.uncut, up is) }
  by false is = held

moved_all : (shard : ShardState) (id front : ℕ) (pins : List Pin) → Keeps shard front → All (λ pin. is_named id pin ≡ true → pin.front ≤ front) pins →
    All (IsPinned shard) pins →
    All (IsPinned shard) (map (moved_to id front) pins)
moved_all shard id front [] kept up held = λ k d within. absurd (omega (arith, within))
moved_all shard id front (p ∷ pins) kept up held =
    All-cons (IsPinned shard) (moved_to id front p) (map (moved_to id front) pins)
    (moved_pin shard id front p kept (All-head (λ pin. is_named id pin ≡ true → pin.front ≤ front) p pins up) (All-head (IsPinned shard) p pins held))
    (moved_all shard id front pins kept (All-tail (λ pin. is_named id pin ≡ true → pin.front ≤ front) p pins up) (All-tail (IsPinned shard) p pins held))

-- with other pins, each of which it may have, a shard is as sound as before
sound_pinned : (shard : ShardState) (pins : List Pin) → IsSound shard → All (IsPinned shard) pins → IsSound (record shard { pins = pins })
sound_pinned shard pins sound held = record {
  shape = sound.shape;
  bounds = sound.bounds;
  keeps_cut = sound.keeps_cut;
  pins = λ k d within. (let pin = held k d within in record { kept = pin.kept; uncut = pin.uncut });
  rest = sound.rest;
}

pub sound_moved : (shard : ShardState) (id front : ℕ) (pins : List Pin) → IsSound shard → Keeps shard front →
    All (λ pin. is_named id pin ≡ true → pin.front ≤ front) shard.pins →
    pins ≡ map (moved_to id front) shard.pins → IsSound (record shard { pins = pins })
sound_moved shard id front pins sound kept up are =
    rw are (sound_pinned shard (map (moved_to id front) shard.pins) sound (moved_all shard id front shard.pins kept up sound.pins))

pub sound_unpinned : (shard : ShardState) (id : ℕ) (pins : List Pin) → IsSound shard → pins ≡ filter (λ pin. not (is_named id pin)) shard.pins →
    IsSound (record shard { pins = pins })
sound_unpinned shard id pins sound are =
    rw are (sound_pinned shard (filter (λ pin. not (is_named id pin)) shard.pins) sound
    (All-filter (λ pin. not (is_named id pin)) (IsPinned shard) shard.pins sound.pins))

pub unpinned_is : (shard now : ShardState) (id : ℕ) (pins : List Pin) → shard ≡ now → pins ≡ filter (λ pin. not (is_named id pin)) shard.pins →
    record shard { pins = pins } ≡ record now { pins = filter (λ pin. not (is_named id pin)) now.pins }
unpinned_is shard now id pins is are = rw are (ap (λ (s : ShardState). record s { pins = filter (λ pin. not (is_named id pin)) s.pins }) is)
