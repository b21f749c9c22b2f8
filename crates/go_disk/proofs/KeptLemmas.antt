-- The fields of a disk in memory still agree with the record when a call is added to it.
use Rattle.std.proofs.Common.{◌≡◌, ℕ, ◌+◌, ◌≤◌, List, [], ◌∷◌, ◌++◌, length, take, drop, sym, ◌∙◌, ap, arith, length-append}
use Rattle.std.specs.Prelude.{Vec, vec_capacity}
use Rattle.std.proofs.Common.{length-take}
use Rattle.std.proofs.lemmas.List.{take-take, take-append-le}
use Rattle.std.specs.declared.alloc.Global.{Global}
use Rattle.go_disk.specs.declared.span.Span.{Span}
use Rattle.go_disk.specs.declared.call.Call.{Call}
use Rattle.go_disk.specs.declared.call.Call.TheVariants.{Looked, Wrote, Tore, Synced}
use Rattle.go_disk.specs.declared.mem_disk.MemDisk.TheInside.{Inside}
use Rattle.go_disk.specs.Disk.{overwritten}
use Rattle.go_disk.specs.ImageLaws.{length-overwritten}
use Rattle.go_disk.specs.MemDisk.{Step, looked, wrote, tore, synced, Tape, contents_after, stable_after, spans_after, used_by, noted}
use Rattle.go_disk.specs.Recording.{steps_from, written_by, steps_of, tape_of, IsKept}
use Rattle.go_disk.proofs.RecordLemmas.{steps-looked, steps-wrote, steps-tore, steps-synced, written_by-push}

-- a disk with other steps
abbrev with_steps : Inside → List Step → Tape
with_steps disk steps = record {
  first = disk.first.items;
  steps = steps;
  failing = disk.failing.items;
  stop = disk.stop;
  room = disk.room;
  faults = disk.faults;
  blunders = disk.blunders;
}

module _ (disk : Inside) (calls : Vec Call Global) (pushed : calls.items ≡ disk.calls.items ++ Looked ∷ []) where
  looked_steps : steps_from calls.items disk.written.items [] ≡ looked ∷ steps_of disk
  looked_steps = ap (λ (l : List Call). steps_from l disk.written.items []) pushed ∙ steps-looked disk.calls.items disk.written.items []

  -- the call is noted
  pub noted_looked : tape_of (record disk { calls = calls }) ≡ noted (tape_of disk) looked
  noted_looked = ap (with_steps disk) looked_steps

  pub kept_looked : IsKept disk → vec_capacity disk.calls ≤ vec_capacity calls → used_by (steps_of disk) + 1 ≤ disk.room
      → IsKept (record disk { calls = calls })
  kept_looked kept fits room =
      let size : length calls.items ≡ length disk.calls.items + 1 = omega (arith, ap length pushed, length-append disk.calls.items (Looked ∷ [])) in
      record {
        recorded = record {
          written = ap written_by pushed ∙ written_by-push disk.calls.items Looked ∙ omega (arith, kept.recorded.written);
          used = ap used_by looked_steps ∙ omega (arith, kept.recorded.used, size);
          within = omega (arith, kept.recorded.used, room, size);
        };
        contents = record {
          bytes = kept.contents.bytes ∙ sym (ap (contents_after disk.first.items) looked_steps);
          stable = kept.contents.stable ∙ sym (ap (stable_after disk.first.items) looked_steps);
          spans = kept.contents.spans ∙ sym (ap spans_after looked_steps);
        };
        same = record {
          same = kept.same.same;
          same_stable = kept.same.same_stable;
          same_bytes = kept.same.same_bytes;
        };
        small = record {
          few_spans = omega (arith, kept.small.few_spans, size);
          few_bytes = kept.small.few_bytes;
          few_stable = kept.small.few_stable;
        };
        memory = record {
          calls_fit = omega (arith, kept.memory.calls_fit, fits);
          written_fit = kept.memory.written_fit;
          spans_fit = kept.memory.spans_fit;
          bytes_fit = kept.memory.bytes_fit;
          stable_fit = kept.memory.stable_fit;
        };
      }

module _ (disk : Inside) (calls : Vec Call Global) (spans : Vec Span Global) (at n : ℕ)
    (pushed : calls.items ≡ disk.calls.items ++ Tore at n ∷ []) (added : spans.items ≡ disk.spans.items ++ record { from = at; to = at + n } ∷ []) where
  tore_steps : steps_from calls.items disk.written.items [] ≡ tore at n ∷ steps_of disk
  tore_steps = ap (λ (l : List Call). steps_from l disk.written.items []) pushed ∙ steps-tore disk.calls.items disk.written.items [] at n

  pub noted_tore : tape_of (record disk { calls = calls; spans = spans }) ≡ noted (tape_of disk) (tore at n)
  noted_tore = ap (with_steps disk) tore_steps

  pub kept_tore : IsKept disk → vec_capacity disk.calls ≤ vec_capacity calls → vec_capacity disk.spans ≤ vec_capacity spans
      → used_by (steps_of disk) + (1 + n) ≤ disk.room → IsKept (record disk { calls = calls; spans = spans })
  kept_tore kept fits spans_fit room =
      let size : length calls.items ≡ length disk.calls.items + 1 = omega (arith, ap length pushed, length-append disk.calls.items (Tore at n ∷ [])) in
      let span : Span = record { from = at; to = at + n } in
      record {
        recorded = record {
          written = ap written_by pushed ∙ written_by-push disk.calls.items (Tore at n) ∙ omega (arith, kept.recorded.written);
          used = ap used_by tore_steps ∙ omega (arith, kept.recorded.used, size);
          within = omega (arith, kept.recorded.used, room, size);
        };
        contents = record {
          bytes = kept.contents.bytes ∙ sym (ap (contents_after disk.first.items) tore_steps);
          stable = kept.contents.stable ∙ sym (ap (stable_after disk.first.items) tore_steps);
          spans = added ∙ ap (λ (l : List Span). l ++ span ∷ []) kept.contents.spans ∙ sym (ap spans_after tore_steps);
        };
        same = record {
          same = kept.same.same;
          same_stable = kept.same.same_stable;
          same_bytes = kept.same.same_bytes;
        };
        small = record {
          few_spans = omega (arith, kept.small.few_spans, size, ap length added, length-append disk.spans.items (span ∷ []));
          few_bytes = kept.small.few_bytes;
          few_stable = kept.small.few_stable;
        };
        memory = record {
          calls_fit = omega (arith, kept.memory.calls_fit, fits);
          written_fit = kept.memory.written_fit;
          spans_fit = omega (arith, kept.memory.spans_fit, spans_fit);
          bytes_fit = kept.memory.bytes_fit;
          stable_fit = kept.memory.stable_fit;
        };
      }

module _ (disk : Inside) (calls : Vec Call Global) (written bytes : Vec ℕ Global) (spans : Vec Span Global) (same at : ℕ) (piece : List ℕ)
    (kept : IsKept disk) (pushed : calls.items ≡ disk.calls.items ++ Wrote at (length piece) ∷ [])
    (appended : written.items ≡ disk.written.items ++ piece) where
  wrote_steps : steps_from calls.items written.items [] ≡ wrote at piece ∷ steps_of disk
  wrote_steps =
      ap (λ (l : List Call). steps_from l written.items []) pushed
      ∙ ap (λ (l : List ℕ). steps_from (disk.calls.items ++ Wrote at (length piece) ∷ []) l []) appended
      ∙ steps-wrote disk.calls.items disk.written.items [] at piece kept.recorded.written

  pub noted_wrote : tape_of (record disk { calls = calls; written = written; bytes = bytes; same = same; spans = spans })
      ≡ noted (tape_of disk) (wrote at piece)
  noted_wrote = ap (with_steps disk) wrote_steps

  -- the piece stands in the bytes, and its range is noted
  pub record IsPutIn : Type 0 where
    pub over : bytes.items ≡ overwritten disk.bytes.items at piece
    pub added : spans.items ≡ disk.spans.items ++ record { from = at; to = at + length piece } ∷ []

  -- no memory was given up
  pub record HasStillMemory : Type 0 where
    pub calls_fit : vec_capacity disk.calls ≤ vec_capacity calls
    pub written_fit : vec_capacity disk.written ≤ vec_capacity written
    pub bytes_fit : vec_capacity disk.bytes ≤ vec_capacity bytes
    pub spans_fit : vec_capacity disk.spans ≤ vec_capacity spans

  -- the write began within the bytes, and there was room for it; what is the same in front of it stays so
  pub record FitsIn : Type 0 where
    pub inside : at ≤ length disk.bytes.items
    pub room : used_by (steps_of disk) + (1 + length piece) ≤ disk.room
    pub below : same ≤ disk.same
    pub before : same ≤ at

  pub kept_wrote : IsPutIn → HasStillMemory → FitsIn → IsKept (record disk { calls = calls; written = written; bytes = bytes; same = same; spans = spans })
  kept_wrote put still fit =
      let size : length calls.items ≡ length disk.calls.items + 1 =
      omega (arith, ap length pushed, length-append disk.calls.items (Wrote at (length piece) ∷ [])) in
      let flat : length written.items ≡ length disk.written.items + length piece = omega (arith, ap length appended, length-append disk.written.items piece) in
      let span : Span = record { from = at; to = at + length piece } in
      record {
        recorded = record {
          written = ap written_by pushed ∙ written_by-push disk.calls.items (Wrote at (length piece)) ∙ omega (arith, kept.recorded.written, flat);
          used = ap used_by wrote_steps ∙ omega (arith, kept.recorded.used, size, flat);
          within = omega (arith, kept.recorded.used, fit.room, size, flat);
        };
        contents = record {
          bytes = put.over ∙ ap (λ (l : List ℕ). overwritten l at piece) kept.contents.bytes ∙ sym (ap (contents_after disk.first.items) wrote_steps);
          stable = kept.contents.stable ∙ sym (ap (stable_after disk.first.items) wrote_steps);
          spans = put.added ∙ ap (λ (l : List Span). l ++ span ∷ []) kept.contents.spans ∙ sym (ap spans_after wrote_steps);
        };
        same = record {
          same =
              sym (take-take (same) disk.same disk.stable.items (omega (arith, fit.below)))
              ∙ ap (λ (l : List ℕ). take (same) l) kept.same.same
              ∙ take-take (same) disk.same disk.bytes.items (omega (arith, fit.below))
              ∙ sym (ap (λ (l : List ℕ). take (same) l) put.over
              ∙ take-append-le (same) (take at disk.bytes.items) (piece ++ drop (at + length piece) disk.bytes.items)
              (omega (arith, length-take at disk.bytes.items, fit.inside))
              ∙ take-take (same) at disk.bytes.items (omega (arith, fit.before)));
          same_stable = omega (arith, kept.same.same_stable, fit.below);
          same_bytes = omega (arith, ap length put.over, length-overwritten disk.bytes.items at piece, fit.inside, fit.before);
        };
        small = record {
          few_spans = omega (arith, kept.small.few_spans, size, ap length put.added, length-append disk.spans.items (span ∷ []));
          few_bytes = omega (arith, kept.small.few_bytes, flat, ap length put.over, length-overwritten disk.bytes.items at piece, fit.inside, fit.before);
          few_stable = omega (arith, kept.small.few_stable, flat);
        };
        memory = record {
          calls_fit = omega (arith, kept.memory.calls_fit, still.calls_fit);
          written_fit = omega (arith, kept.memory.written_fit, still.written_fit);
          spans_fit = omega (arith, kept.memory.spans_fit, still.spans_fit);
          bytes_fit = omega (arith, kept.memory.bytes_fit, still.bytes_fit);
          stable_fit = kept.memory.stable_fit;
        };
      }

module _ (disk : Inside) (calls : Vec Call Global) (stable : Vec ℕ Global) (same : ℕ) (spans : Vec Span Global)
    (pushed : calls.items ≡ disk.calls.items ++ Synced ∷ []) where
  synced_steps : steps_from calls.items disk.written.items [] ≡ synced ∷ steps_of disk
  synced_steps = ap (λ (l : List Call). steps_from l disk.written.items []) pushed ∙ steps-synced disk.calls.items disk.written.items []

  pub noted_synced : tape_of (record disk { calls = calls; stable = stable; same = same; spans = spans }) ≡ noted (tape_of disk) synced
  noted_synced = ap (with_steps disk) synced_steps

  pub kept_synced : IsKept disk → same ≤ length disk.bytes.items → stable.items ≡ disk.bytes.items → spans.items ≡ []
      → vec_capacity disk.calls ≤ vec_capacity calls
      → vec_capacity disk.stable ≤ vec_capacity stable → vec_capacity disk.spans ≤ vec_capacity spans → used_by (steps_of disk) + 1 ≤ disk.room
      → IsKept (record disk { calls = calls; stable = stable; same = same; spans = spans })
  kept_synced kept inside copied cleared calls_fit stable_fit spans_fit room =
      let size : length calls.items ≡ length disk.calls.items + 1 = omega (arith, ap length pushed, length-append disk.calls.items (Synced ∷ [])) in
      record {
        recorded = record {
          written = ap written_by pushed ∙ written_by-push disk.calls.items Synced ∙ omega (arith, kept.recorded.written);
          used = ap used_by synced_steps ∙ omega (arith, kept.recorded.used, size);
          within = omega (arith, kept.recorded.used, room, size);
        };
        contents = record {
          bytes = kept.contents.bytes ∙ sym (ap (contents_after disk.first.items) synced_steps);
          stable = copied ∙ kept.contents.bytes ∙ sym (ap (stable_after disk.first.items) synced_steps);
          spans = cleared ∙ sym (ap spans_after synced_steps);
        };
        same = record {
          same = ap (λ (l : List ℕ). take same l) copied;
          same_stable = omega (arith, ap length copied);
          same_bytes = inside;
        };
        small = record {
          few_spans = omega (arith, ap length cleared);
          few_bytes = kept.small.few_bytes;
          few_stable = omega (arith, kept.small.few_bytes, ap length copied);
        };
        memory = record {
          calls_fit = omega (arith, kept.memory.calls_fit, calls_fit);
          written_fit = kept.memory.written_fit;
          spans_fit = omega (arith, kept.memory.spans_fit, spans_fit);
          bytes_fit = kept.memory.bytes_fit;
          stable_fit = omega (arith, kept.memory.stable_fit, stable_fit);
        };
      }
