-- What a crash may leave of a file while it is made.
use Rattle.std.proofs.Common.{◌≡◌, inl, inr, ℕ, ◌<◌, ◌≤◌, List, [], ◌∷◌, ◌++◌, length, drop, refl, sym, ap, subst, arith}
use Rattle.std.specs.Prelude.{Option, None, Some, IfSome, slice_index}
use Rattle.std.specs.Int.{w16, w32, to_le_bytes}
use Rattle.std.proofs.lemmas.List.{length-drop}
use Rattle.go_disk.specs.Disk.{Holds, StaysTold}
use Rattle.go_blocks.specs.declared.layout.TheConstants.{CLOSED, MAGIC, VERSION, HEADER_LENGTH}
use Rattle.go_blocks.specs.File.{IsUnmade, IsVertexCount, IsClosedBy, File, header_bytes}
use Rattle.go_blocks.proofs.FileLaws.{IsFront-header}
use Rattle.go_durable.proofs.Gates.{some_not_none}
use Rattle.go_durable.specs.Attaching.{IsLeft}
use Rattle.go_durable.specs.Reading.{IsUnmadeOf}
use Rattle.go_durable.specs.Writing.{IsTornOf, IsOpenWithBody, IsShutOrOpened}

-- the header behind its gate
abbrev pub header_inner : ℕ → List ℕ
header_inner v = MAGIC ++ (to_le_bytes w16 VERSION ++ to_le_bytes w32 v)

-- what a read gives is left
pub seen_is_left : (v : ℕ) (contents : Option (List ℕ)) (image : List ℕ) → contents ≡ Some image → IsLeft v contents image
seen_is_left v contents image is = subst (λ (s : Option (List ℕ)). IsLeft v s image) (sym is) (inl refl)

-- a gate that is torn into a file of at most a byte
pub gate_is_left : (v len : ℕ) (contents : Option (List ℕ)) (image : List ℕ) → IfSome contents (IsUnmadeOf len) → len < 2 → IsTornOf contents 0 1 image
    → IsLeft v contents image
gate_is_left v len None image unmade short torn = torn
gate_is_left v len (Some bytes) image unmade short torn = inr (unmade.unmade, inl (inl (omega (arith, torn.no_longer, unmade.so_long)), refl))

-- a gate that was written into such a file
pub gate_is_closed : (len : ℕ) (old new : Option (List ℕ)) → IfSome old (IsUnmadeOf len) → len < 2 → StaysTold (Holds 0 (CLOSED ∷ [])) old new →
    IfSome new (IsClosedBy []) × StaysTold (λ a b. length b ≤ HEADER_LENGTH) old new
gate_is_closed len None None unmade short holds = (tt, refl)
gate_is_closed len None (Some new) unmade short holds = absurd (some_not_none new holds)
gate_is_closed len (Some old) None unmade short holds = absurd holds
gate_is_closed len (Some old) (Some new) unmade short holds =
    (record { rest = drop 1 old; parts = holds.written }, omega (arith, ap length holds.written, length-drop 1 old, unmade.so_long))

-- a longer file that isn't made yet has its gate
gated : (bytes : List ℕ) → 2 ≤ length bytes → IsUnmade bytes → IsClosedBy [] bytes × (length bytes ≤ HEADER_LENGTH)
gated [] long unmade = absurd (omega arith)
gated (x ∷ bytes) long (inl short) = absurd (omega (arith, long, short))
gated (x ∷ bytes) long (inr header) = (record { rest = bytes; parts = ap (λ (y : ℕ). y ∷ bytes) header.1 }, header.0)

-- the same, of what a disk tells
pub gate_was_closed : (len : ℕ) (contents : Option (List ℕ)) → IfSome contents (IsUnmadeOf len) → 2 ≤ len
    → IfSome contents (IsClosedBy []) × StaysTold (λ a b. length b ≤ HEADER_LENGTH) contents contents
gate_was_closed len None unmade long = (tt, refl)
gate_was_closed len (Some bytes) unmade long = gated bytes (omega (arith, long, unmade.so_long)) unmade.unmade

-- a closed gate with no more than a header behind it isn't made yet
shut_is_unmade : (image : List ℕ) → IsClosedBy [] image → length image ≤ HEADER_LENGTH → IsUnmade image
shut_is_unmade image closed short = inr (short, ap (λ (bytes : List ℕ). slice_index bytes 0) closed.parts)

-- an open gate in front of a whole header is the file of the empty log
opened_is_file : (v : ℕ) (image : List ℕ) → IsVertexCount v → IsOpenWithBody [] (header_inner v) image → File v [] image
opened_is_file v image count is = record { front = header_bytes is.gate v; is_front = IsFront-header is.gate v is.is_open count; closed = is.closed }

-- what is left while the header is written and its gate is opened
pub header_is_left : (v len : ℕ) (old mid : Option (List ℕ)) (image : List ℕ) → IsVertexCount v → IfSome old (IsUnmadeOf len)
    → StaysTold (λ a b. length b ≤ HEADER_LENGTH) old mid →
    IsShutOrOpened mid HEADER_LENGTH [] (header_inner v) image → IsLeft v old image
header_is_left v len None None image count unmade short is = is
header_is_left v len None (Some mid) image count unmade short is = absurd (some_not_none mid short)
header_is_left v len (Some old) None image count unmade short is = absurd short
header_is_left v len (Some old) (Some mid) image count unmade short (inl shut) =
    inr (unmade.unmade, inl (shut_is_unmade image shut.closed (omega (arith, shut.fits, short)), refl))
header_is_left v len (Some old) (Some mid) image count unmade short (inr is) = inr (unmade.unmade, inr (opened_is_file v image count is))

-- told stays told, from one step to the next
pub told_on : (old mid new : Option (List ℕ)) (step : List ℕ → List ℕ → Type 0) (next : List ℕ → List ℕ → Type 0) → StaysTold step old mid
    → StaysTold next mid new → StaysTold (λ a b. Unit {0}) old new
told_on None None new step next first second = second
told_on None (Some mid) new step next first second = absurd (some_not_none mid first)
told_on (Some old) None new step next first second = absurd first
told_on (Some old) (Some mid) None step next first second = absurd second
told_on (Some old) (Some mid) (Some new) step next first second = tt
