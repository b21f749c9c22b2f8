-- Lemmas on what is read of a log: a part of it from the log file, and a part from the ring.
use Rattle.std.proofs.Common.{◌≡◌, ℕ, ◌+◌, ◌-◌, ◌<◌, ◌≤◌, true, false, List, [], ◌∷◌, ◌++◌, length, take, drop, Option, None, Some, refl, ap, arith, sym}
use Rattle.std.proofs.Common.{subst, ◌∙◌, length-append, take-append-drop, take-add}
use Rattle.std.specs.Prelude.{All, Contains, IfSome, is_some}
use Rattle.std.proofs.lemmas.List.{length-take, length-drop, drop-drop, drop-take, append-nil, nil_from_length}
use Rattle.std.proofs.Math.Seq.{drop-append_seam}
use Rattle.go_word.specs.declared.edge.Edge.{Edge}
use Rattle.go_disk.specs.Device.{Device}
use Rattle.go_durable.specs.Journal.{Keeps}
use Rattle.go_durable.specs.JournalRanging.{IsRanged}
use Rattle.go_durable.specs.Ranging.{AddsRange}
use Rattle.go_durable.specs.declared.journal.Journal.{Journal}
use Rattle.go_plain.specs.Plain.{PlainState, AddsLog, HasRead, IsOnlyFlushed}

-- a part of a log, by where it begins and how long it is, or by where it ends
range_is : (a b : ℕ) (log : List Edge) → a ≤ b → take (b - a) (drop a log) ≡ drop a (take b log)
range_is a b log order = sym (ap (λ (n : ℕ). drop a (take n log)) (omega (arith, order)) ∙ drop-take a (b - a) log)

-- a part of a log that is in the ring, as it is cut out of its entries
pub ring_range : (moved a b : ℕ) (log entries : List Edge) → moved ≤ a → a ≤ b → entries ≡ drop moved log →
    take ((b - moved) - (a - moved)) (drop (a - moved) entries) ≡ drop a (take b log)
ring_range moved a b log entries from order are =
    let behind : drop (a - moved) entries ≡ drop a log =
    ap (drop (a - moved)) are ∙ drop-drop (a - moved) moved log ∙ ap (λ (n : ℕ). drop n log) (omega (arith, from)) in
    ap (λ (n : ℕ). take n (drop (a - moved) entries)) (omega (arith, from, order)) ∙ ap (take (b - a)) behind ∙ range_is a b log order

-- one part of a log and then the next
range_joins : (a m b : ℕ) (log : List Edge) → a ≤ m → m ≤ b → drop a (take m log) ++ drop m (take b log) ≡ drop a (take b log)
range_joins a m b log first later =
    let one = range_is a m log first in
    let two = range_is m b log later in
    let all = range_is a b log (omega (arith, first, later)) in
    let behind : drop (m - a) (drop a log) ≡ drop m log = drop-drop (m - a) a log ∙ ap (λ (n : ℕ). drop n log) (omega (arith, first)) in
    ap (λ (l : List Edge). l ++ drop m (take b log)) (sym one) ∙ ap (λ (l : List Edge). take (m - a) (drop a log) ++ l) (sym two)
    ∙ ap (λ (l : List Edge). take (m - a) (drop a log) ++ take (b - m) l) (sym behind) ∙ sym (take-add (m - a) (b - m) (drop a log))
    ∙ ap (λ (n : ℕ). take n (drop a log)) (omega (arith, first, later)) ∙ all

-- what is so where a disk tells
told_so : {P : Type 0} (told : Option (List ℕ)) → IfSome told (λ bytes. P) → is_some told ≡ true → P
told_so None has is = absurd (let h : false ≡ true = is in cc)
told_so (Some bytes) has is = has

-- entries that were read of the log file
pub adds_log : {D : Type 0} (device : Device D) (store : PlainState D) (a b : ℕ) (journal new : Journal D) (before after : List Edge) → a ≤ b →
    Keeps device store.origin.vertices store.origin.first store.log store.origin.disk journal →
    IsRanged device (record { from = a; upto = b; before = before; after = after }) journal new → AddsLog device store a b before after
adds_log device store a b journal new before after order keeps is =
    let more : List Edge = drop (length before) after in
    let added : after ≡ before ++ more =
    sym (take-append-drop (length before) after) ∙ ap (λ (l : List Edge). l ++ more) is.front_stays in
    record {
      more = more;
      added = added;
      so_many = omega (arith, length-drop (length before) after, is.so_many, order);
      shown = λ told.
          let range = told_so (device.contents store.origin.disk) (is.shown store.origin.vertices store.origin.first store.log store.origin.disk keeps) told in
          ap (drop (length before)) range.added ∙ drop-append_seam before (take (b - a) (drop a store.log)) ∙ range_is a b store.log order;
    }

-- nothing of the log file was read, since none is asked for
pub adds_none : {D : Type 0} (device : Device D) (store : PlainState D) (a b : ℕ) (before : List Edge) → a ≡ b → AddsLog device store a b before before
adds_none device store a b before same = record {
  more = [];
  added = sym (append-nil before);
  so_many = omega (arith, same);
  shown = λ told. sym (nil_from_length (drop a (take b store.log)) (omega (arith, same, length-drop a (take b store.log), length-take b store.log)));
}

-- a part that was read of the log file, and the rest of the ring
pub has_read : {D : Type 0} (device : Device D) (store : PlainState D) (a m b : ℕ) (before middle after : List Edge) → before ≡ [] → a ≤ m → m ≤ b →
    b ≤ length store.log → AddsLog device store a m before middle → after ≡ middle ++ drop m (take b store.log) → HasRead device store a b after
has_read device store a m b before middle after none first later within adds are =
    let rest = drop m (take b store.log) in
    let whole : after ≡ adds.more ++ rest = are ∙ ap (λ (l : List Edge). l ++ rest) (adds.added ∙ ap (λ (l : List Edge). l ++ adds.more) none) in
    record {
      so_many = omega (
        arith,
        ap length whole,
        length-append adds.more rest,
        adds.so_many,
        length-drop m
            (take b store.log),
        length-take b store.log,
        later,
        within,
      );
      shown = λ told. whole ∙ ap (λ (l : List Edge). l ++ rest) (adds.shown told) ∙ range_joins a m b store.log first later;
    }

-- all of it was read of the log file
pub has_read_all : {D : Type 0} (device : Device D) (store : PlainState D) (a m b : ℕ) (before after : List Edge) → before ≡ [] → m ≡ b →
    AddsLog device store a m before after → HasRead device store a b after
has_read_all device store a m b before after none same adds =
    let whole : after ≡ adds.more = adds.added ∙ ap (λ (l : List Edge). l ++ adds.more) none in
    record {
      so_many = omega (arith, ap length whole, adds.so_many, same);
      shown = λ told. whole ∙ adds.shown told ∙ ap (λ (n : ℕ). drop a (take n store.log)) same;
    }
