-- A log goes on by a block, on its disk and in every image.
use Rattle.std.proofs.Common.{◌≡◌, inl, inr, ℕ, ◌+◌, ◌*◌, ◌<◌, ◌^◌, List, [], ◌∷◌, ◌++◌, length, get_or, take, refl, sym, ap, subst, ◌∙◌, arith}
use Rattle.std.specs.Prelude.{All, Option, None, Some, IfSome}
use Rattle.std.specs.List.{flat_map}
use Rattle.std.proofs.lemmas.Bool.{cases_lt}
use Rattle.std.proofs.lemmas.List.{length-append, get_or_append_left, get_or_push, take-append-le, take_at}
use Rattle.std.proofs.lemmas.List.Elements.{All-push}
use Rattle.std.proofs.lemmas.List.Sums.{sum_by_push}
use Rattle.go_word.specs.declared.edge.Edge.{Edge}
use Rattle.go_word.specs.Log.{IsWithin}
use Rattle.go_disk.specs.Device.{Device, IsDevice}
use Rattle.go_blocks.specs.declared.layout.TheConstants.{CLOSED, OPEN, FIRST_GATE, WORDS_AT}
use Rattle.go_blocks.specs.declared.log_file.BlockPlace.{BlockPlace}
use Rattle.go_blocks.specs.File.{IsCount, Block, IsBlock, IsFront, File, HasBlocks, block_bytes, body_of, places_of}
use Rattle.go_blocks.proofs.FileLaws.{length-body_of, HasBlocks-more, entries_of-more, IsFront-more}
use Rattle.go_blocks.proofs.Steps.{places_of-more, front_length}
use Rattle.go_durable.specs.LogState.{LogState, IsPlacedBefore, IsInRow, AreInRow, IsSound, entries_at}
use Rattle.go_durable.specs.Moments.{LeavesOnly}
use Rattle.go_durable.specs.Recovery.{IsBeforeOrAfter}
use Rattle.go_durable.specs.Standing.{IsShut, IsLog}
use Rattle.go_durable.specs.Writing.{IsShutOrOpened, IsOpenedOn, StaysShut, TellsOn}
use Rattle.go_durable.specs.Appending.{HasImage, IsLongerBy, IsSpent}
use Rattle.go_durable.proofs.Moments.{weaker}

-- the front that stands for a log
pub front_of : {D : Type 0} (device : Device D) (kept : LogState D) (log : List Edge) (is : IsLog device kept log) → IsFront kept.vertices log is.bytes
front_of device kept log is = record { blocks = is.blocks; has_blocks = is.has_blocks; entries = is.entries }

-- a gate that is closed, or open in front of a block, is a file of the log or of the log with the block
pub before_or_after : (v : ℕ) (log edges : List Edge) (front image : List ℕ) (contents : Option (List ℕ)) (end : ℕ) → IsFront v log front
    → IsCount (length edges) → All (IsWithin v) edges →
    IsShutOrOpened contents end front (body_of edges) image → IsBeforeOrAfter v log edges image
before_or_after v log edges front image None end is_front count within is = absurd is
before_or_after v log edges front image (Some bytes) end is_front count within (inl shut) =
    inl (record { front = front; is_front = is_front; closed = shut.closed })
before_or_after v log edges front image (Some bytes) end is_front count within (inr opened) =
    inr (record {
      front = front ++ opened.gate ∷ body_of edges;
      is_front = IsFront-more v log front opened.gate edges is_front opened.is_open count within;
      closed = opened.closed;
    })

-- the moments of an append
pub append_moments : {D : Type 0} (device : Device D) (log edges : List Edge) (old : LogState D) (new : D) (gate end : ℕ) (body : List ℕ) →
    IsCount (length edges) → All (IsWithin old.vertices) edges → body ≡ body_of edges ++ CLOSED ∷ [] → gate ≡ old.gate →
    ((front inner : List ℕ) → IsShut device front old.disk → gate ≡ length front → body ≡ inner ++ CLOSED ∷ []
    → LeavesOnly device old.disk new (IsShutOrOpened (device.contents old.disk) end front inner)) →
    IsLog device old log → LeavesOnly device old.disk new (IsBeforeOrAfter old.vertices log edges)
append_moments device log edges old new gate end body count within body_is gate_is leaves is =
    weaker device old.disk new (IsShutOrOpened (device.contents old.disk) end is.bytes (body_of edges)) (IsBeforeOrAfter old.vertices log edges)
    (λ image shown. before_or_after old.vertices log edges is.bytes image (device.contents old.disk) end (front_of device old log is) count within shown)
    (leaves is.bytes (body_of edges) is.shut (gate_is ∙ is.gate_is) body_is)

-- what can't be lost is an image of just the log
base_has_log : {D : Type 0} (device : Device D) (v : ℕ) (log : List Edge) (front : List ℕ) (disk : D) (told stable : Option (List ℕ)) → IsFront v log front →
    IsDevice device → device.base disk ≡ stable → StaysShut told stable front → IfSome told (λ bytes. HasImage (device.images disk) (File v log))
base_has_log device v log front disk None stable is_front rules stable_is shut = tt
base_has_log device v log front disk (Some bytes) None is_front rules stable_is shut = absurd shut
base_has_log device v log front disk (Some bytes) (Some kept) is_front rules stable_is shut =
    record { image = kept; is_image = rules.base_is_image disk kept stable_is; has = record { front = front; is_front = is_front; closed = shut } }

-- a log that a fault spent
pub append_spends : {D : Type 0} (device : Device D) (edges : List Edge) (old : LogState D) (new : D) (gate : ℕ) →
    IsDevice device → gate ≡ old.gate →
    ((log : List Edge) → IsLog device old log → LeavesOnly device old.disk new (IsBeforeOrAfter old.vertices log edges)) →
    ((front : List ℕ) → IsShut device front old.disk → gate ≡ length front → StaysShut (device.contents old.disk) (device.base new) front) →
    TellsOn device old.disk new → IsSpent device edges old new
append_spends device edges old new gate rules gate_is moments stays told = record {
  each = λ log is image is_image. let leaves = moments log is in
      leaves.each image (rules.counts_now new (device.clock old.disk) image leaves.passes.later is_image);
  one = λ log is. base_has_log device old.vertices log is.bytes new (device.contents old.disk) (device.base new) (front_of device old log is) rules refl
      (stays is.bytes is.shut (gate_is ∙ is.gate_is));
  told = told;
}

-- the numbers of a log go on by those of a block of these entries, whose bytes behind its gate are these
pub record IsBlockOn {D : Type 0} (edges : List Edge) (old new : LogState D) (body : List ℕ) : Type 0 where
  pub count : IsCount (length edges)
  pub within : All (IsWithin old.vertices) edges
  pub body_is : body ≡ body_of edges ++ CLOSED ∷ []
  pub vertices_are : new.vertices ≡ old.vertices
  pub front_is : new.front ≡ old.front + length edges
  pub gate_is : new.gate ≡ old.gate + length body
  pub places_are : new.places ≡ old.places ++ record { gate = old.gate; count = length edges } ∷ []

-- a log that goes on by a block
append_stands : {D : Type 0} (device : Device D) (log edges : List Edge) (old new : LogState D) (body : List ℕ) → IsBlockOn edges old new body →
    (is : IsLog device old log) → IsOpenedOn device is.bytes (body_of edges) old.disk new.disk → IsLog device new (log ++ edges)
append_stands device log edges old new body on is opened =
    let b : Block = record { gate = OPEN; entries = edges } in
    let block : IsBlock old.vertices b = record { is_open = record { open_gate = omega arith }; count = on.count; within = on.within } in
    let at_gate : old.gate ≡ FIRST_GATE + length (flat_map block_bytes is.blocks) = is.gate_is ∙ front_length old.vertices is.blocks is.bytes is.has_blocks in
    record {
      blocks = is.blocks ++ b ∷ [];
      bytes = is.bytes ++ OPEN ∷ body_of edges;
      has_blocks = subst (λ (v : ℕ). HasBlocks v (is.blocks ++ b ∷ []) (is.bytes ++ OPEN ∷ body_of edges)) (sym on.vertices_are)
          (HasBlocks-more old.vertices is.blocks is.bytes b is.has_blocks block);
      entries = ap (λ (l : List Edge). l ++ edges) is.entries ∙ sym (entries_of-more is.blocks b);
      so_many = on.front_is ∙ omega (arith, is.so_many, length-append log edges);
      gate_is = on.gate_is
          ∙ omega (arith, is.gate_is, ap length on.body_is, length-append (body_of edges) (CLOSED ∷ []), length-append is.bytes (OPEN ∷ body_of edges));
      places_are = on.places_are ∙ ap (λ (l : List BlockPlace). l ++ record { gate = old.gate; count = length edges } ∷ []) is.places_are
          ∙ ap (λ (g : ℕ). places_of FIRST_GATE is.blocks ++ record { gate = g; count = length edges } ∷ []) at_gate
          ∙ sym (places_of-more FIRST_GATE is.blocks b);
      shut = opened.shut;
    }

-- an append that succeeded
pub append_grows : {D : Type 0} (device : Device D) (edges : List Edge) (old new : LogState D) (body : List ℕ) (gate : ℕ) → IsBlockOn edges old new body →
    gate ≡ old.gate →
    ((front inner : List ℕ) → IsShut device front old.disk → gate ≡ length front → body ≡ inner ++ CLOSED ∷ []
    → IsOpenedOn device front inner old.disk new.disk) →
    IsLongerBy device edges old new
append_grows device edges old new body gate on same_gate opens = record {
  stands = λ log is. append_stands device log edges old new body on is (opens is.bytes (body_of edges) is.shut (same_gate ∙ is.gate_is) on.body_is);
  vertices_are = on.vertices_are;
  so_many = on.front_is;
  one_block = on.places_are;
  told = λ log is. let opened = opens is.bytes (body_of edges) is.shut (same_gate ∙ is.gate_is) on.body_is in opened.told;
}

-- a block more, behind the others
row_more : (places : List BlockPlace) (place : BlockPlace) → AreInRow places → 0 < place.count
    → place.gate ≡ FIRST_GATE + WORDS_AT * length places + 8 * entries_at places → AreInRow (places ++ place ∷ [])
row_more places place in_row some gate_is i d below = elim (cases_lt i (length places))
    as (λ _. IsInRow (places ++ place ∷ []) i (get_or (places ++ place ∷ []) i d)) [
      | inl earlier ↦
          let row = in_row i d earlier in
          let same : get_or (places ++ place ∷ []) i d ≡ get_or places i d = get_or_append_left places (place ∷ []) d i earlier in
          let front : take i (places ++ place ∷ []) ≡ take i places = take-append-le i places (place ∷ []) (omega (arith, earlier)) in
          record {
            some = omega (arith, row.some, ap (λ (p : BlockPlace). p.count) same);
            gate_is = omega (arith, row.gate_is, ap (λ (p : BlockPlace). p.gate) same, ap entries_at front);
          }
      | inr later ↦
          let last : length places ≡ i = omega (arith, later, below, length-append places (place ∷ [])) in
          let same : get_or (places ++ place ∷ []) i d ≡ place = get_or_push places place d i last in
          let front : take i (places ++ place ∷ []) ≡ places = take_at places (place ∷ []) i last in
          record {
            some = omega (arith, some, ap (λ (p : BlockPlace). p.count) same);
            gate_is = omega (arith, gate_is, last, ap (λ (p : BlockPlace). p.gate) same, ap entries_at front);
          }
    ]

-- the numbers go on
pub sound_more : (v front gate more : ℕ) (places after : List BlockPlace) (edges : List Edge) (body : List ℕ) → IsSound v front gate places
    → IsCount (length edges) → front + length edges < 2 ^ 32 →
    body ≡ body_of edges ++ CLOSED ∷ [] → more ≡ length body → after ≡ places ++ record { gate = gate; count = length edges } ∷ []
    → IsSound v (front + length edges) (gate + more) after
sound_more v front gate more places after edges body sound count small body_is more_is after_is = record {
  vertex_count = sound.vertex_count;
  near = omega (arith, sound.near, count.some, more_is, ap length body_is, length-append (body_of edges) (CLOSED ∷ []), length-body_of edges);
  all = ap entries_at after_is ∙ sum_by_push (λ p. p.count) places (record { gate = gate; count = length edges }) ∙ ap (λ (n : ℕ). n + length edges) sound.all;
  placed = rw after_is (All-push (IsPlacedBefore (gate + more)) places (record { gate = gate; count = length edges })
      (λ i d below. let is = sound.placed i d below in record { few = is.few; ends = omega (arith, is.ends) })
      (record { few = count.few; ends = omega (arith, more_is, ap length body_is, length-append (body_of edges) (CLOSED ∷ []), length-body_of edges) }));
  gate_is = omega (
    arith,
    sound.gate_is,
    more_is,
    ap length body_is,
    length-append (body_of edges) (CLOSED ∷ []),
    length-body_of edges,
    ap length after_is,
    length-append places (record { gate = gate; count = length edges } ∷ []),
  );
  in_row = subst AreInRow (sym after_is) (row_more places (record { gate = gate; count = length edges }) sound.in_row count.some
      (omega (arith, sound.gate_is, sound.all)));
  small = small;
}
