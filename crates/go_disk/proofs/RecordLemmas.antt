-- One call more in the record.
use Rattle.std.proofs.Common.{◌≡◌, ℕ, ◌+◌, ◌≤◌, List, [], ◌∷◌, ◌++◌, length, take, drop, refl, sym, ◌∙◌, ap, arith, length-drop}
use Rattle.std.specs.Prelude.{◌⊎◌, ◌↔◌, Bool, IsTrue, Option, Contains, IsSomeAnd}
use Rattle.std.specs.List.{filter}
use Rattle.std.proofs.lemmas.List.{take_all, take-append-le, drop-append-le, nil_from_length}
use Rattle.go_disk.specs.declared.call.Call.{Call}
use Rattle.go_disk.specs.declared.call.Call.TheVariants.{Looked, Wrote, Tore, Synced}
use Rattle.go_disk.specs.MemDisk.{Step, looked, wrote, tore, synced, Tape, IsListed, syncs_after}
use Rattle.go_disk.specs.Recording.{steps_from, written_by, is_sync}

-- a call that changed nothing
pub steps-looked : (calls : List Call) (bytes : List ℕ) (steps : List Step)
    → steps_from (calls ++ Looked ∷ []) bytes steps ≡ looked ∷ steps_from calls bytes steps
steps-looked [] bytes steps = refl
steps-looked (Looked ∷ calls) bytes steps = steps-looked calls bytes (looked ∷ steps)
steps-looked (Wrote at count ∷ calls) bytes steps = steps-looked calls (drop count bytes) (wrote at (take count bytes) ∷ steps)
steps-looked (Tore at count ∷ calls) bytes steps = steps-looked calls bytes (tore at count ∷ steps)
steps-looked (Synced ∷ calls) bytes steps = steps-looked calls bytes (synced ∷ steps)

-- a sync
pub steps-synced : (calls : List Call) (bytes : List ℕ) (steps : List Step)
    → steps_from (calls ++ Synced ∷ []) bytes steps ≡ synced ∷ steps_from calls bytes steps
steps-synced [] bytes steps = refl
steps-synced (Looked ∷ calls) bytes steps = steps-synced calls bytes (looked ∷ steps)
steps-synced (Wrote at count ∷ calls) bytes steps = steps-synced calls (drop count bytes) (wrote at (take count bytes) ∷ steps)
steps-synced (Tore at count ∷ calls) bytes steps = steps-synced calls bytes (tore at count ∷ steps)
steps-synced (Synced ∷ calls) bytes steps = steps-synced calls bytes (synced ∷ steps)

-- a failed write
pub steps-tore : (calls : List Call) (bytes : List ℕ) (steps : List Step) (a n : ℕ)
    → steps_from (calls ++ Tore a n ∷ []) bytes steps ≡ tore a n ∷ steps_from calls bytes steps
steps-tore [] bytes steps a n = refl
steps-tore (Looked ∷ calls) bytes steps a n = steps-tore calls bytes (looked ∷ steps) a n
steps-tore (Wrote at count ∷ calls) bytes steps a n = steps-tore calls (drop count bytes) (wrote at (take count bytes) ∷ steps) a n
steps-tore (Tore at count ∷ calls) bytes steps a n = steps-tore calls bytes (tore at count ∷ steps) a n
steps-tore (Synced ∷ calls) bytes steps a n = steps-tore calls bytes (synced ∷ steps) a n

-- a write, whose bytes stand behind those of the writes before it
pub steps-wrote : (calls : List Call) (bytes : List ℕ) (steps : List Step) (a : ℕ) (more : List ℕ) → written_by calls ≡ length bytes
    → steps_from (calls ++ Wrote a (length more) ∷ []) (bytes ++ more) steps ≡ wrote a more ∷ steps_from calls bytes steps
steps-wrote [] bytes steps a more sizes =
    let none : bytes ≡ [] = nil_from_length bytes (sym sizes) in
    ap (λ (l : List ℕ). wrote a (take (length more) (l ++ more)) ∷ steps) none
    ∙ ap (λ (l : List ℕ). wrote a l ∷ steps) (take_all (length more) more (omega arith))
steps-wrote (Looked ∷ calls) bytes steps a more sizes = steps-wrote calls bytes (looked ∷ steps) a more sizes
steps-wrote (Wrote at count ∷ calls) bytes steps a more sizes =
    ap (λ (l : List ℕ). steps_from (calls ++ Wrote a (length more) ∷ []) (drop count (bytes ++ more)) (wrote at l ∷ steps))
    (take-append-le count bytes more (omega arith))
    ∙ ap (λ (l : List ℕ). steps_from (calls ++ Wrote a (length more) ∷ []) l (wrote at (take count bytes) ∷ steps))
    (drop-append-le count bytes more (omega arith))
    ∙ steps-wrote calls (drop count bytes) (wrote at (take count bytes) ∷ steps) a more (omega (arith, sizes, length-drop count bytes))
steps-wrote (Tore at count ∷ calls) bytes steps a more sizes = steps-wrote calls bytes (tore at count ∷ steps) a more sizes
steps-wrote (Synced ∷ calls) bytes steps a more sizes = steps-wrote calls bytes (synced ∷ steps) a more sizes

-- how many bytes were written then
pub written_by-push : (calls : List Call) (call : Call) → written_by (calls ++ call ∷ []) ≡ written_by calls + written_by (call ∷ [])
written_by-push [] Looked = refl
written_by-push [] (Wrote at count) = omega arith
written_by-push [] (Tore at count) = refl
written_by-push [] Synced = refl
written_by-push (Looked ∷ calls) call = written_by-push calls call
written_by-push (Wrote at count ∷ calls) call = omega (arith, written_by-push calls call)
written_by-push (Tore at count ∷ calls) call = written_by-push calls call
written_by-push (Synced ∷ calls) call = written_by-push calls call

-- each recorded call is a step
pub length-steps : (calls : List Call) (bytes : List ℕ) (steps : List Step) → length (steps_from calls bytes steps) ≡ length calls + length steps
length-steps [] bytes steps = omega arith
length-steps (Looked ∷ calls) bytes steps = omega (arith, length-steps calls bytes (looked ∷ steps))
length-steps (Wrote at count ∷ calls) bytes steps = omega (arith, length-steps calls (drop count bytes) (wrote at (take count bytes) ∷ steps))
length-steps (Tore at count ∷ calls) bytes steps = omega (arith, length-steps calls bytes (tore at count ∷ steps))
length-steps (Synced ∷ calls) bytes steps = omega (arith, length-steps calls bytes (synced ∷ steps))

-- each sync among the calls is noted
pub length-syncs : (calls : List Call) (bytes : List ℕ) (steps : List Step)
    → length (syncs_after (steps_from calls bytes steps)) ≡ length (filter is_sync calls) + length (syncs_after steps)
length-syncs [] bytes steps = omega arith
length-syncs (Looked ∷ calls) bytes steps = omega (arith, length-syncs calls bytes (looked ∷ steps))
length-syncs (Wrote at count ∷ calls) bytes steps = omega (arith, length-syncs calls (drop count bytes) (wrote at (take count bytes) ∷ steps))
length-syncs (Tore at count ∷ calls) bytes steps = omega (arith, length-syncs calls bytes (tore at count ∷ steps))
length-syncs (Synced ∷ calls) bytes steps = omega (arith, length-syncs calls bytes (synced ∷ steps))

-- what is told of the fields is told of what they stand for
pub listed : (answer : Bool) (failing : List ℕ) (stop : Option ℕ) (number : ℕ) (tape : Tape) → failing ≡ tape.failing → number ≡ length tape.steps
    → IsTrue answer ↔ (Contains failing number ⊎ IsSomeAnd stop (λ after. after ≤ number)) → stop ≡ tape.stop → IsTrue answer ↔ IsListed tape
listed answer failing stop number tape failing_is number_is told stop_is = rw (← failing_is, ← stop_is, ← number_is) told
