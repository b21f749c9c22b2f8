-- What an opening finds, and what a crash at each of its moments leaves.
use Rattle.std.proofs.Common.{◌≡◌, inr, ℕ, zero, suc, ◌+◌, ◌*◌, ◌<◌, ◌≤◌, List, [], ◌∷◌, length, get_or, take, replicate, refl, sym, ap, subst, ◌∙◌, arith}
use Rattle.std.specs.Prelude.{All, Option, None, Some, IfSome, Err}
use Rattle.std.specs.List.{flat_map}
use Rattle.std.proofs.lemmas.List.{length-append, length-replicate}
use Rattle.std.proofs.lemmas.List.Elements.{All-nil, All-cons, All-head, All-tail, All-append}
use Rattle.std.proofs.lemmas.List.Sums.{sum_by-cons}
use Rattle.go_word.specs.Log.{IsWithin}
use Rattle.go_disk.specs.Device.{Device, IsDevice}
use Rattle.go_disk.specs.Disk.{Elapses, IsSynced, StaysTold}
use Rattle.go_blocks.specs.declared.layout.TheConstants.{OPEN, FIRST_GATE, WORDS_AT}
use Rattle.go_blocks.specs.declared.log_file.BlockPlace.{BlockPlace}
use Rattle.go_blocks.specs.File.{IsVertexCount, Block, IsBlock, IsClosedBy, IsUnmade, block_bytes, header_bytes, entries_of, places_of}
use Rattle.go_blocks.proofs.FileLaws.{length-body_of}
use Rattle.go_blocks.proofs.Steps.{front_length}
use Rattle.go_durable.specs.declared.contents.Contents.{Contents}
use Rattle.go_durable.specs.declared.fault.OpenFault.{OpenFault}
use Rattle.go_durable.specs.declared.fault.OpenFault.TheVariants.{Bad, Vertices, TooLong, TooMany, Disk, Memory}
use Rattle.go_durable.specs.declared.limits.TheConstants.{FILE_LIMIT}
use Rattle.go_durable.specs.LogState.{IsPlacedBefore, AreInRow, IsSound, entries_at}
use Rattle.go_durable.specs.Moments.{LeavesOnly}
use Rattle.go_durable.specs.Standing.{IsQuiet}
use Rattle.go_durable.specs.Attaching.{IsAnswerOf, IsLeft, IsOpening, OpensOver, TellsFault, IsOpenedFor, IsUntouched, LeavesUntouched}
use Rattle.go_durable.specs.Handing.{handed, kept_of}
use Rattle.go_durable.specs.Reading.{IsContents, IsNoFaultOfADisk, IsLookedAt, IsMade, IsUnmadeOf, ReadsWhole}
use Rattle.go_durable.proofs.Moments.{settled, goes_on}
use Rattle.go_durable.proofs.Gates.{some_not_none}
use Rattle.go_durable.proofs.Headers.{seen_is_left}

-- a fault of the disk is an answer of any bytes
pub fault_answers : {D : Type 0} (v room : ℕ) (contents : Option (List ℕ)) (disk : D) → IsAnswerOf {D = D} v room contents (Err (Disk disk))
fault_answers v room None disk = record { bytes = []; shown = tt; answer = tt }
fault_answers v room (Some bytes) disk = record { bytes = bytes; shown = refl; answer = tt }

-- and so is want of memory
memory_answers : {D : Type 0} (v room : ℕ) (contents : Option (List ℕ)) (disk : D) → IsAnswerOf {D = D} v room contents (Err (Memory disk))
memory_answers v room None disk = record { bytes = []; shown = tt; answer = tt }
memory_answers v room (Some bytes) disk = record { bytes = bytes; shown = refl; answer = tt }

-- a file that is too long
long_answers : {D : Type 0} (v room len : ℕ) (contents : Option (List ℕ)) (disk : D) → IfSome contents (λ bytes. len ≡ length bytes) → FILE_LIMIT < len
    → IsAnswerOf {D = D} v room contents (Err (TooLong len disk))
long_answers v room len None disk so_long over =
    record { bytes = replicate len 0; shown = tt; answer = record { so_long = sym (length-replicate len 0); over = over } }
long_answers v room len (Some bytes) disk so_long over = record { bytes = bytes; shown = refl; answer = record { so_long = so_long; over = over } }

-- a disk that wasn't read whole
pub read_refused : {D : Type 0} (device : Device D) (v room : ℕ) (told : Option (List ℕ)) (mid new : D) (refused : OpenFault (Unit {0}))
    → device.contents mid ≡ told →
    ReadsWhole device mid new (Err refused) → IsAnswerOf {D = D} v room told (Err (handed refused new))
read_refused device v room told mid new (Bad bad none) same answer = absurd answer
read_refused device v room told mid new (Vertices file none) same answer = absurd answer
read_refused device v room told mid new (TooLong len none) same answer =
    long_answers v room len told new (subst (λ (s : Option (List ℕ)). IfSome s (λ bytes. len ≡ length bytes)) same answer.0) answer.1
read_refused device v room told mid new (TooMany count none) same answer = absurd answer
read_refused device v room told mid new (Disk none) same answer = fault_answers v room told new
read_refused device v room told mid new (Memory none) same answer = memory_answers v room told new

-- a refusal after a sync that succeeded
pub refused_moments : {D : Type 0} (device : Device D) (v : ℕ) (old new : D) (refused : OpenFault (Unit {0})) →
    IsOpening device v old new → OpensOver device v old (Err (handed refused new))
refused_moments device v old new (Bad bad none) opening = opening
refused_moments device v old new (Vertices file none) opening = opening
refused_moments device v old new (TooLong len none) opening = opening
refused_moments device v old new (TooMany count none) opening = opening
refused_moments device v old new (Disk none) opening = inr opening
refused_moments device v old new (Memory none) opening = opening

-- a refusal of a disk that was only looked at
pub refused_untouched : {D : Type 0} (device : Device D) (old new : D) (refused : OpenFault (Unit {0})) → IsUntouched device old new
    → LeavesUntouched device old (Err (handed refused new))
refused_untouched device old new (Bad bad none) untouched = untouched
refused_untouched device old new (Vertices file none) untouched = untouched
refused_untouched device old new (TooLong len none) untouched = untouched
refused_untouched device old new (TooMany count none) untouched = untouched
refused_untouched device old new (Disk none) untouched = tt
refused_untouched device old new (Memory none) untouched = untouched

-- a refusal of the contents tells no fault
pub refused_fault : {D : Type 0} (device : Device D) (old new : D) (refused : OpenFault (Unit {0})) → IsNoFaultOfADisk refused
    → TellsFault device old (Err (handed refused new))
refused_fault device old new (Bad bad none) no_fault = tt
refused_fault device old new (Vertices file none) no_fault = tt
refused_fault device old new (TooLong len none) no_fault = tt
refused_fault device old new (TooMany count none) no_fault = tt
refused_fault device old new (Disk none) no_fault = absurd no_fault
refused_fault device old new (Memory none) no_fault = tt

-- what is contents is told on by a disk that sees the same
pub told_same : (old new : Option (List ℕ)) → new ≡ old → StaysTold (λ a b. Unit {0}) old new
told_same None new same = same
told_same (Some bytes) None same = cc
told_same (Some bytes) (Some other) same = tt

-- a sync that succeeded, and a look
pub looked_settles : {D : Type 0} (device : Device D) (rules : IsDevice device) (v : ℕ) (old mid new : D) → Elapses device old mid → IsSynced device old mid →
    device.blunders mid ≡ device.blunders old → IsLookedAt device mid new → IsOpening device v old new
looked_settles device rules v old mid new time synced none looked =
    goes_on device old mid new (λ image. device.contents mid ≡ Some image) (λ image. device.contents mid ≡ Some image) (IsLeft v (device.contents old))
    (λ image is. seen_is_left v (device.contents old) image (sym synced.contents ∙ is)) (λ image is.
    seen_is_left v (device.contents old) image (sym synced.contents ∙ is))
    (settled device rules old mid (λ image. device.contents mid ≡ Some image) time synced none synced.only) looked.moments

-- and a making
pub made_settles : {D : Type 0} (device : Device D) (v : ℕ) (old mid new : D) →
    device.contents mid ≡ device.contents old → IsOpening device v old mid → LeavesOnly device mid new (IsLeft v (device.contents mid))
    → IsOpening device v old new
made_settles device v old mid new same opening leaves =
    goes_on device old mid new (IsLeft v (device.contents old)) (IsLeft v (device.contents mid)) (IsLeft v (device.contents old))
    (λ image is. is) (λ image is. subst (λ (s : Option (List ℕ)). IsLeft v s image) same is) opening leaves

-- the empty log of a file that was just made
pub made_is_log : {D : Type 0} (device : Device D) (v : ℕ) (old mid new : D) (contents : Contents) → IsVertexCount v →
    contents.edges.items ≡ [] → contents.places.items ≡ [] → contents.gate ≡ FIRST_GATE → device.contents mid ≡ device.contents old → IsMade device v mid new →
    IsOpenedFor device v old (record { log = kept_of v new contents; edges = contents.edges.items })
made_is_log device v old mid new contents count edges_are places_are gate_is same made = record {
  opened = record {
    stands = record {
      blocks = [];
      bytes = header_bytes OPEN v;
      has_blocks = record { gate = OPEN; is_open = record { open_gate = omega arith }; vertices = count; each = All-nil (IsBlock v); bytes = refl };
      entries = edges_are;
      so_many = refl;
      gate_is = gate_is;
      places_are = places_are;
      shut = made.shut;
    };
    within = subst (All (IsWithin v)) (sym edges_are) (All-nil (IsWithin v));
  };
  vertices_are = refl;
  told = subst (λ (s : Option (List ℕ)). StaysTold (λ a b. Unit {0}) s (device.contents new)) same made.told;
}

-- the entries of blocks are in range
pub entries_within : (v : ℕ) (blocks : List Block) → All (IsBlock v) blocks → All (IsWithin v) (entries_of blocks)
entries_within v [] each = All-nil (IsWithin v)
entries_within v (b ∷ blocks) each = let first = All-head (IsBlock v) b blocks each in
    All-append (IsWithin v) b.entries (entries_of blocks) first.within (entries_within v blocks (All-tail (IsBlock v) b blocks each))

-- each entry takes at most 13 bytes
few_bytes : (v : ℕ) (blocks : List Block) → All (IsBlock v) blocks → length (flat_map block_bytes blocks) ≤ 13 * length (entries_of blocks)
few_bytes v [] each = omega arith
few_bytes v (b ∷ blocks) each =
    let first = All-head (IsBlock v) b blocks each in
    omega (
      arith,
      first.count.some,
      few_bytes v blocks (All-tail (IsBlock v) b blocks each),
      length-append (block_bytes b) (flat_map block_bytes blocks),
      length-append b.entries (entries_of blocks),
      length-body_of b.entries,
    )

-- the places have all entries
pub places_have_all : (at : ℕ) (blocks : List Block) → entries_at (places_of at blocks) ≡ length (entries_of blocks)
places_have_all at [] = refl
places_have_all at (b ∷ blocks) =
    omega (
      arith,
      sum_by-cons (λ p. p.count) (record { gate = at; count = length b.entries }) (places_of (at + length (block_bytes b)) blocks),
      places_have_all (at + length (block_bytes b)) blocks,
      length-append b.entries (entries_of blocks),
    )

-- the places of blocks end before the closed gate behind them
blocks_placed : (v at gate : ℕ) (blocks : List Block) → All (IsBlock v) blocks → at + length (flat_map block_bytes blocks) ≤ gate
    → All (IsPlacedBefore gate) (places_of at blocks)
blocks_placed v at gate [] each ends = All-nil (IsPlacedBefore gate)
blocks_placed v at gate (b ∷ blocks) each ends =
    let first = All-head (IsBlock v) b blocks each in
    let size : length (block_bytes b) ≡ WORDS_AT + 8 * length b.entries = omega (arith, length-body_of b.entries) in
    All-cons (IsPlacedBefore gate) (record { gate = at; count = length b.entries }) (places_of (at + length (block_bytes b)) blocks)
    (record { few = first.count.few; ends = omega (arith, ends, size, length-append (block_bytes b) (flat_map block_bytes blocks)) })
    (blocks_placed v (at + length (block_bytes b)) gate blocks (All-tail (IsBlock v) b blocks each)
    (omega (arith, ends, length-append (block_bytes b) (flat_map block_bytes blocks))))

-- the blocks stand in row, wherever the first begins
row_of : (v at : ℕ) (blocks : List Block) (i : ℕ) (d : BlockPlace) → All (IsBlock v) blocks → i < length (places_of at blocks)
    → (0 < (get_or (places_of at blocks) i d).count)
    × ((get_or (places_of at blocks) i d).gate ≡ at + WORDS_AT * i + 8 * entries_at (take i (places_of at blocks)))
row_of v at [] i d each below = absurd (omega (arith, below))
row_of v at (b ∷ blocks) zero d each below = (
  (All-head (IsBlock v) b blocks each).count.some,
  omega arith,
)
row_of v at (b ∷ blocks) (suc i) d each below =
    let next : ℕ = at + length (block_bytes b) in
    let here : BlockPlace = record { gate = at; count = length b.entries } in
    let later = row_of v next blocks i d (All-tail (IsBlock v) b blocks each) (omega (arith, below)) in (
      later.0,
      omega (arith, later.1, length-body_of b.entries, sum_by-cons (λ p. p.count) here (take i (places_of next blocks))),
    )

-- and end where they all end
row_ends : (at : ℕ) (blocks : List Block)
    → length (flat_map block_bytes blocks) ≡ WORDS_AT * length (places_of at blocks) + 8 * length (entries_of blocks)
row_ends at [] = omega arith
row_ends at (b ∷ blocks) =
    omega (
      arith,
      row_ends (at + length (block_bytes b)) blocks,
      length-append (block_bytes b) (flat_map block_bytes blocks),
      length-append b.entries (entries_of blocks),
      length-body_of b.entries,
    )

-- the numbers of a file that was read
pub read_is_sound : (v room : ℕ) (bytes : List ℕ) (contents : Contents) → IsContents v room bytes contents → length bytes ≤ FILE_LIMIT →
    IsSound v (length contents.edges.items) contents.gate contents.places.items
read_is_sound v room bytes contents is fits = record {
  vertex_count = is.read.has_blocks.vertices;
  near = omega (
    arith,
    is.read.gate,
    front_length v is.read.blocks is.read.front is.read.has_blocks,
    few_bytes v is.read.blocks is.read.has_blocks.each,
    ap length is.read.edges,
  );
  all = ap entries_at is.read.places ∙ places_have_all FIRST_GATE is.read.blocks ∙ ap length (sym is.read.edges);
  placed = subst (All (IsPlacedBefore contents.gate)) (sym is.read.places)
      (blocks_placed v FIRST_GATE contents.gate is.read.blocks is.read.has_blocks.each
      (omega (arith, is.read.gate, front_length v is.read.blocks is.read.front is.read.has_blocks)));
  gate_is = omega (
    arith,
    is.read.gate,
    front_length v is.read.blocks is.read.front is.read.has_blocks,
    row_ends FIRST_GATE is.read.blocks,
    ap length is.read.places,
    ap length is.read.edges,
  );
  in_row = subst AreInRow (sym is.read.places) (λ i d below.
      let row = row_of v FIRST_GATE is.read.blocks i d is.read.has_blocks.each below in
      record { some = row.0; gate_is = row.1 });
  small = omega (arith, is.small, fits);
}

-- what a read gives is closed by the front that was read
closed_of : (front bytes : List ℕ) (contents : Option (List ℕ)) → IsClosedBy front bytes → IfSome contents (λ told. told ≡ bytes)
    → IfSome contents (IsClosedBy front)
closed_of front bytes None closed shown = tt
closed_of front bytes (Some told) closed shown = subst (IsClosedBy front) (sym shown) closed

-- the log of a file that was read
pub read_is_log : {D : Type 0} (device : Device D) (v room : ℕ) (bytes : List ℕ) (old new : D) (contents : Contents) →
    IsContents v room bytes contents → IfSome (device.contents old) (λ told. told ≡ bytes) → device.contents new ≡ device.contents old → IsQuiet device new →
    IsOpenedFor device v old (record { log = kept_of v new contents; edges = contents.edges.items })
read_is_log device v room bytes old new contents is shown same quiet = record {
  opened = record {
    stands = record {
      blocks = is.read.blocks;
      bytes = is.read.front;
      has_blocks = is.read.has_blocks;
      entries = is.read.edges;
      so_many = refl;
      gate_is = is.read.gate;
      places_are = is.read.places;
      shut = record {
        quiet = quiet;
        closed =
            subst (λ (s : Option (List ℕ)). IfSome s (IsClosedBy is.read.front)) (sym same)
            (closed_of is.read.front bytes (device.contents old) is.read.closed shown);
      };
    };
    within = subst (All (IsWithin v)) (sym is.read.edges) (entries_within v is.read.blocks is.read.has_blocks.each);
  };
  vertices_are = refl;
  told = told_same (device.contents old) (device.contents new) same;
}

-- bytes that were read and aren't made yet are those that the disk tells of
pub unmade_shown : (before now : Option (List ℕ)) (bytes read : List ℕ) (len : ℕ) → now ≡ before → IfSome before (λ told. told ≡ bytes) → read ≡ bytes
    → IsUnmade read → len ≡ length read → IfSome now (IsUnmadeOf len)
unmade_shown None None bytes read len same shown is unmade so_long = tt
unmade_shown None (Some now) bytes read len same shown is unmade so_long = absurd (some_not_none now same)
unmade_shown (Some before) None bytes read len same shown is unmade so_long = tt
unmade_shown (Some before) (Some now) bytes read len same shown is unmade so_long =
    let all : read ≡ now = cc in
    subst (IsUnmadeOf len) all (record { unmade = unmade; so_long = sym so_long })

-- bytes that were read are those that the disk told of
pub read_shown : (before told : Option (List ℕ)) (bytes read : List ℕ) → before ≡ told → IfSome before (λ b. b ≡ bytes) → read ≡ bytes
    → IfSome told (λ b. b ≡ read)
read_shown before told bytes read same shown is =
    subst (λ (l : List ℕ). IfSome told (λ b. b ≡ l)) (sym is) (subst (λ (s : Option (List ℕ)). IfSome s (λ b. b ≡ bytes)) same shown)
