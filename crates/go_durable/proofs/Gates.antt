-- What a crash may leave of a file while a body is written behind its closed gate, and while the gate is opened.
use Rattle.std.proofs.Common.{◌≡◌, inl, inr, ℕ, zero, suc, ◌+◌, ◌≤◌, List, [], ◌∷◌, ◌++◌, length, get_or, take, drop, refl, sym, ap, subst, ◌∙◌, append_assoc}
use Rattle.std.proofs.Common.{add-one, drop-cons, arith}
use Rattle.std.specs.Prelude.{max, Option, None, Some, IfSome}
use Rattle.std.proofs.lemmas.List.{take_at, drop_at, take-append-drop, length-append, length-take}
use Rattle.go_disk.specs.Disk.{Torn, Holds, StaysTold}
use Rattle.go_disk.specs.ImageLaws.{length-overwritten}
use Rattle.go_blocks.specs.declared.layout.TheConstants.{CLOSED, OPEN}
use Rattle.go_blocks.specs.File.{IsClosedBy}
use Rattle.go_blocks.proofs.FileLaws.{IsClosedBy-kept}
use Rattle.go_durable.specs.Writing.{IsTornOf, IsShutOrOpened, StaysShut}

-- a value isn't none
pub some_not_none : {A : Type 0} (x : A) → Some x ≡ None → ⊥
some_not_none x same = cc

-- a body that is torn behind a closed gate leaves the gate closed
pub torn_body : (front inner : List ℕ) (n : ℕ) (contents : Option (List ℕ)) (image : List ℕ) → IfSome contents (IsClosedBy front)
    → IsTornOf contents (length front + 1) n image →
    IsShutOrOpened contents (length front + 1 + n) front inner image
torn_body front inner n None image closed torn = absurd torn
torn_body front inner n (Some bytes) image closed torn = inl (record { closed = IsClosedBy-kept front bytes image closed torn.before; fits = torn.no_longer })

-- behind the closed gate stands the body, with the closed gate of the next block
pub record IsBehind (front inner : List ℕ) (end : ℕ) (old new : List ℕ) : Type 0 where
  pub rest : List ℕ
  pub parts : new ≡ front ++ CLOSED ∷ (inner ++ CLOSED ∷ rest)
  pub fits : length new ≤ max (length old) end

-- a front, a closed gate, and what comes then
around : (front tail : List ℕ) (x : ℕ) → front ++ x ∷ tail ≡ (front ++ x ∷ []) ++ tail
around front tail x = sym (append_assoc front (x ∷ []) tail)

-- the front and its gate are so long
length-gated : (front : List ℕ) (x : ℕ) → length (front ++ x ∷ []) ≡ length front + 1
length-gated front x = length-append front (x ∷ [])

-- what stands behind a front and one byte
behind : (front tail : List ℕ) (x : ℕ) → drop (length front + 1) (front ++ x ∷ tail) ≡ tail
behind front tail x = ap (drop (length front + 1)) (around front tail x) ∙ drop_at (front ++ x ∷ []) tail (length front + 1) (length-gated front x)

-- and up to that byte
upto : (front tail : List ℕ) (x : ℕ) → take (length front + 1) (front ++ x ∷ tail) ≡ front ++ x ∷ []
upto front tail x = ap (take (length front + 1)) (around front tail x) ∙ take_at (front ++ x ∷ []) tail (length front + 1) (length-gated front x)

-- a body that was written
body_is_behind : (front inner old new : List ℕ) → IsClosedBy front old → Holds (length front + 1) (inner ++ CLOSED ∷ []) old new →
    IsBehind front inner (length front + 1 + length (inner ++ CLOSED ∷ [])) old new
body_is_behind front inner old new closed holds =
    let n : ℕ = length (inner ++ CLOSED ∷ []) in
    let rest : List ℕ = drop (length front + 1 + n) old in
    let head : take (length front + 1) old ≡ front ++ CLOSED ∷ [] = ap (take (length front + 1)) closed.parts ∙ upto front closed.rest CLOSED in
    record {
      rest = rest;
      parts = holds.written ∙ ap (λ (t : List ℕ). t ++ ((inner ++ CLOSED ∷ []) ++ rest)) head
          ∙ append_assoc front (CLOSED ∷ []) ((inner ++ CLOSED ∷ []) ++ rest)
          ∙ ap (λ (t : List ℕ). front ++ CLOSED ∷ t) (append_assoc inner (CLOSED ∷ []) rest);
      fits = omega (arith, ap length holds.written, length-overwritten old (length front + 1) (inner ++ CLOSED ∷ []), holds.within);
    }

-- the same, of what a disk tells
pub body_behind : (front inner : List ℕ) (old new : Option (List ℕ)) → IfSome old (IsClosedBy front)
    → StaysTold (Holds (length front + 1) (inner ++ CLOSED ∷ [])) old new →
    StaysTold (IsBehind front inner (length front + 1 + length (inner ++ CLOSED ∷ []))) old new
body_behind front inner None new closed tells = tells
body_behind front inner (Some old) None closed tells = tells
body_behind front inner (Some old) (Some new) closed tells = body_is_behind front inner old new closed tells

-- whatever is written behind the closed gate, it stays closed
written_closed : (front body old new : List ℕ) → IsClosedBy front old → Holds (length front + 1) body old new → IsClosedBy front new
written_closed front body old new closed holds =
    IsClosedBy-kept front old new closed (ap (take (length front + 1)) holds.written
    ∙ take_at (take (length front + 1) old) (body ++ drop (length front + 1 + length body) old) (length front + 1)
    (omega (arith, length-take (length front + 1) old, holds.within)))

-- the same, of what a disk tells
pub holds_closed : (front body : List ℕ) (old new : Option (List ℕ)) → IfSome old (IsClosedBy front) → StaysTold (Holds (length front + 1) body) old new
    → StaysShut old new front
holds_closed front body None new closed tells = tells
holds_closed front body (Some old) None closed tells = tells
holds_closed front body (Some old) (Some new) closed tells = written_closed front body old new closed tells

-- one byte at a gate, whatever it is
gate_torn : (front tail bytes image : List ℕ) (x : ℕ) → bytes ≡ front ++ x ∷ tail → Torn (length front) 1 bytes image
    → image ≡ front ++ get_or image (length front) 0 ∷ tail
gate_torn front tail bytes image x parts torn =
    let long : length bytes ≡ length front + (1 + length tail) = ap length parts ∙ length-append front (x ∷ tail) ∙ omega arith in
    let first : take (length front) image ≡ front = torn.before ∙ ap (take (length front)) parts ∙ take_at front (x ∷ tail) (length front) refl in
    let last : drop (suc (length front)) image ≡ tail =
    subst (λ (k : ℕ). drop k image ≡ tail) (add-one (length front)) (torn.after ∙ ap (drop (length front + 1)) parts ∙ behind front tail x) in
    sym (take-append-drop (length front) image) ∙ ap (λ (t : List ℕ). t ++ drop (length front) image) first
    ∙ ap (λ (t : List ℕ). front ++ t) (drop-cons image (length front) 0 (omega (arith, long, torn.no_shorter))
    ∙ ap (λ (t : List ℕ). get_or image (length front) 0 ∷ t) last)

-- a gate that is torn is closed, or it is open in front of its whole body
gate_of : (front inner old bytes image : List ℕ) (end x : ℕ) → IsBehind front inner end old bytes → Torn (length front) 1 bytes image → (rest : List ℕ) →
    bytes ≡ front ++ CLOSED ∷ (inner ++ CLOSED ∷ rest) → image ≡ front ++ x ∷ (inner ++ CLOSED ∷ rest) → IsShutOrOpened (Some old) end front inner image
gate_of front inner old bytes image end zero is torn rest parts image_is =
    inl (record {
      closed = record { rest = inner ++ CLOSED ∷ rest; parts = image_is };
      fits = omega (arith, is.fits, ap length parts, ap length image_is, length-append front (CLOSED ∷ (inner ++ CLOSED ∷ rest)));
    })
gate_of front inner old bytes image end (suc x) is torn rest parts image_is =
    inr (record {
      gate = suc x;
      is_open = record { open_gate = omega arith };
      closed =
          record { rest = rest; parts = image_is ∙ sym (append_assoc front (suc x ∷ inner) (CLOSED ∷ rest)) };
    })

-- the same, of what a disk tells
pub torn_gate : (front inner : List ℕ) (end : ℕ) (old mid : Option (List ℕ)) (image : List ℕ) → StaysTold (IsBehind front inner end) old mid
    → IsTornOf mid (length front) 1 image →
    IsShutOrOpened old end front inner image
torn_gate front inner end None None image tells torn = torn
torn_gate front inner end None (Some mid) image tells torn = absurd (some_not_none mid tells)
torn_gate front inner end (Some old) None image tells torn = absurd torn
torn_gate front inner end (Some old) (Some mid) image tells torn =
    gate_of front inner old mid image end (get_or image (length front) 0) tells torn tells.rest tells.parts
    (gate_torn front (inner ++ CLOSED ∷ tells.rest) mid image CLOSED tells.parts torn)

-- the bytes once a gate was opened
opened : (front inner : List ℕ) (end : ℕ) (old mid new : List ℕ) → IsBehind front inner end old mid → Holds (length front) (OPEN ∷ []) mid new
    → IsClosedBy (front ++ OPEN ∷ inner) new
opened front inner end old mid new is holds =
    let tail : List ℕ = inner ++ CLOSED ∷ is.rest in
    let head : take (length front) mid ≡ front = ap (take (length front)) is.parts ∙ take_at front (CLOSED ∷ tail) (length front) refl in
    let last : drop (length front + 1) mid ≡ tail = ap (drop (length front + 1)) is.parts ∙ behind front tail CLOSED in
    record {
      rest = is.rest;
      parts = holds.written ∙ ap (λ (t : List ℕ). t ++ OPEN ∷ drop (length front + 1) mid) head ∙ ap (λ (t : List ℕ). front ++ OPEN ∷ t) last
          ∙ sym (append_assoc front (OPEN ∷ inner) (CLOSED ∷ is.rest));
    }

-- a disk that tells nothing goes on so
untold : (front : List ℕ) (bytes : List ℕ) (mid new : Option (List ℕ)) → mid ≡ None → StaysTold (Holds (length front) bytes) mid new → (P : List ℕ → Type 0)
    → IfSome new P × (new ≡ None)
untold front bytes None None is holds P = (tt, refl)
untold front bytes None (Some new) is holds P = absurd (some_not_none new holds)
untold front bytes (Some mid) new is holds P = absurd (some_not_none mid is)

-- a gate that was opened
pub gate_opened : (front inner : List ℕ) (end : ℕ) (old mid new : Option (List ℕ)) → StaysTold (IsBehind front inner end) old mid
    → StaysTold (Holds (length front) (OPEN ∷ [])) mid new →
    IfSome new (IsClosedBy (front ++ OPEN ∷ inner)) × StaysTold (λ a b. Unit {0}) old new
gate_opened front inner end None mid new tells holds = untold front (OPEN ∷ []) mid new tells holds (IsClosedBy (front ++ OPEN ∷ inner))
gate_opened front inner end (Some old) None new tells holds = absurd tells
gate_opened front inner end (Some old) (Some mid) None tells holds = absurd holds
gate_opened front inner end (Some old) (Some mid) (Some new) tells holds = (opened front inner end old mid new tells holds, tt)
