-- A store of a word: a pending entry is written and becomes one of the party's own.
use Rattle.std.proofs.Common.{◌≡◌, ℕ, ◌+◌, ◌-◌, ◌%◌, ◌<◌, ◌≤◌, ◌≢◌, true, List, length, set, sym, refl, ap, ◌∙◌, ⊎_elim, arith, subst}
use Rattle.std.specs.Prelude.{Contains, min, sum_by}
use Rattle.std.proofs.lemmas.Bool.{cases_eq, cases_lt}
use Rattle.std.proofs.Math.Nat.{mod-lt}
use Rattle.std.proofs.lemmas.List.{length-set}
use Rattle.std.proofs.lemmas.List.Sums.{sum_by-le-sum_by}
use Rattle.std.proofs.lemmas.List.Elements.{All-contains}
use mathlib.Core.Option.{some}
use lib.ListN.{get_elem?}
use Rattle.go_word.specs.declared.edge.Edge.{Edge}
use Rattle.go_word.specs.Word.{word, is_matched}
use Rattle.go_core.specs.declared.entry.Entry.{Entry}
use Rattle.go_core.specs.declared.view.View.{View}
use Rattle.go_core.specs.Frame.{Frame, place, slot, head_in, archived_in, durable_in, flag_in, released}
use Rattle.go_core.specs.View.{stands_at, count_at, unfilled, stands, without, inserted, stored}
use Rattle.go_core.specs.Rule.{IsOf, owed, IsWritten, Seated, TiedBy}
use Rattle.go_core.proofs.Lookups.{lookup-within, lookup-same}
use Rattle.go_core.proofs.Totals.{bit_of, total-set, term-le}
use Rattle.go_core.proofs.Entries.{bit-here, bit-other, count_at-without_here, count_at-without_other, count_at-inserted, count_at-Contains, All-without}
use Rattle.go_core.proofs.Entries.{All-inserted}
use Rattle.go_core.proofs.Rising.{rising-inserted}
use Rattle.go_core.proofs.Onward.{Onward, seated_onward, works_still, each_set}
use Rattle.go_core.proofs.Moved.{count_alike, total_alike, flag_alike, word_other, word_here}
use Rattle.go_core.proofs.Loads.{still_live}
use Rattle.go_core.proofs.Laps.{place-apart}

-- where a pending entry stands: once, at an unwritten position from the released length on
record IsPending (f : Frame) (log : List Edge) (words : List ℕ) (views : List View) (v : View) (x : Entry) : Type 0 where
  of_log : IsOf log x
  within : x.at < length log
  beyond : released words ≤ x.at
  owed_once : owed views x.at ≡ 1
  pending : count_at x.at v.pending ≡ 1
  abandoned : count_at x.at v.abandoned ≡ 0
  own : count_at x.at v.own ≡ 0
  joined : sum_by (count_at x.at) v.joined ≡ 0

is_pending : (f : Frame) (log : List Edge) (words : List ℕ) (views : List View) (i : ℕ) (v : View) (x : Entry) → get_elem? views i ≡ some v
    → Contains v.pending x → TiedBy f log words views → IsPending f log words views v x
is_pending f log words views i v x there contained tied =
    let r = tied.ringed in
    let s = tied.seated i v there in
    let of_log : IsOf log x = All-contains (IsOf log) v.pending x s.owes.pending_of contained in
    let within : x.at < length log = lookup-within log x.at x.edge of_log in
    let found : 0 < count_at x.at v.pending = count_at-Contains v.pending x contained in
    let term : unfilled x.at v ≤ owed views x.at = term-le (unfilled x.at) views i v there in
    let some_owed : 0 < owed views x.at = omega arith in
    let past_archived : archived_in words ≤ x.at =
    ⊎_elim (λ (less : x.at < archived_in words). let filled = (r.archived.written x.at less).filled in absurd (omega arith)) (λ over. over)
    (cases_lt x.at (archived_in words))
    in
    let archived_from = r.archived.from in
    let all : sum_by (stands x.at) views ≡ 1 = tied.stand.once x.at (omega arith) within in
    let mine : stands x.at v ≤ sum_by (stands x.at) views = term-le (stands x.at) views i v there in
    let owes : owed views x.at ≤ sum_by (stands x.at) views = sum_by-le-sum_by (unfilled x.at) (stands x.at) views (λ u. omega arith) in
    record {
      of_log = of_log;
      within = within;
      beyond = omega arith;
      owed_once = omega arith;
      pending = omega arith;
      abandoned = omega arith;
      own =
          omega arith;
      joined = omega arith;
    }

pub store_keeps : (f : Frame) (log : List Edge) (words : List ℕ) (views : List View) (i : ℕ) (v : View) (x : Entry) → get_elem? views i ≡ some v
    → v.live ≡ true → Contains v.pending x → x.at < f.slots + min v.archived v.durable → TiedBy f log words views
    → TiedBy f log (set words (place f x.at) (word f.slots x.at x.edge)) (set views i (stored x v))
store_keeps f log words views i v x there live contained room tied =
    let r = tied.ringed in
    let s0 = tied.seated i v there in
    let c = is_pending f log words views i v x there contained tied in
    let at : ℕ = x.at in
    let w = stored x v in
    let n : ℕ = word f.slots at x.edge in
    let words' = set words (place f at) n in
    let views' = set views i w in
    let shape = r.shape in
    let some_slots = shape.some_slots in
    let four_words = shape.four_words in
    let all_words = shape.all_words in
    let archived_front = r.archived in
    let durable_front = r.durable in
    let archived_from = archived_front.from in
    let archived_to = archived_front.to in
    let durable_from = durable_front.from in
    let durable_to = durable_front.to in
    let known_archived = s0.knows.archived_to in
    let known_durable = s0.knows.durable_to in
    let low : released words ≤ at = c.beyond in
    let high : at < released words + f.slots = omega arith in
    let turn : at % f.slots < f.slots = mod-lt at some_slots in
    let here : slot f words' at ≡ n = word_here words (place f at) n (omega arith) in
    let head : head_in words' ≡ head_in words = word_other words (place f at) 0 n (λ e. omega arith) in
    let archived : archived_in words' ≡ archived_in words = word_other words (place f at) 1 n (λ e. omega arith) in
    let durable : durable_in words' ≡ durable_in words = word_other words (place f at) 2 n (λ e. omega arith) in
    let flag : flag_in words' ≡ flag_in words = word_other words (place f at) 3 n (λ e. omega arith) in
    let front : released words' ≡ released words = omega arith in
    let slots : (p : ℕ) → released words ≤ p → p < released words + f.slots → p ≢ at → slot f words' p ≡ slot f words p =
    λ p from to ne. word_other words (place f at) (place f p) n (place-apart f (released words) p at from to low high ne)
    in
    let other : (p : ℕ) → p ≢ at → owed views' p ≡ owed views p =
    λ p ne. total_alike (unfilled p) views i v w there (ap (λ k. k + count_at p v.abandoned) (count_at-without_other p at v.pending ne))
    in
    let none : owed views' at ≡ 0 =
    let e : owed views' at + unfilled at v ≡ owed views at + unfilled at w = total-set (unfilled at) views i v w there in
    let gone : count_at at (without at v.pending) ≡ count_at at v.pending - 1 = count_at-without_here at v.pending in
    let once = c.owed_once in
    let pending = c.pending in
    let abandoned = c.abandoned in
    omega arith
    in
    let stand_at : (p : ℕ) → stands p w ≡ stands p v = λ p.
    (let put : count_at p (inserted x v.own) ≡ bit_of (stands_at p x) + count_at p v.own = count_at-inserted p x v.own in
    ⊎_elim
    (λ (same : p ≡ at).
    let one : bit_of (stands_at p x) ≡ 1 = bit-here p x (sym same) in
    let gone : count_at p (without at v.pending) ≡ count_at at v.pending - 1 = ap (λ q. count_at q (without at v.pending)) same
    ∙ count_at-without_here at v.pending in
    let only = c.pending in
    let was : count_at p v.pending ≡ 1 = ap (λ q. count_at q v.pending) same ∙ c.pending in
    omega arith)
    (λ (ne : p ≢ at).
    let zero' : bit_of (stands_at p x) ≡ 0 = bit-other p x (λ e. ne (sym e)) in
    let kept : count_at p (without at v.pending) ≡ count_at p v.pending = count_at-without_other p at v.pending ne in
    omega arith) (cases_eq p at))
    in
    let stand : (p : ℕ) → sum_by (stands p) views' ≡ sum_by (stands p) views = λ p. total_alike (stands p) views i v w there (stand_at p) in
    let apart : (p : ℕ) → IsWritten log views p → p ≢ at = λ p written same.
    (let filled = written.filled in
    let once = c.owed_once in
    let moved : owed views p ≡ owed views at = ap (owed views) same in
    absurd (omega arith))
    in
    let forth : (p : ℕ) → IsWritten log views p
    → IsWritten log views' p = λ p written. record { within = written.within; filled = other p (apart p written) ∙ written.filled } in
    let back : (p : ℕ) → p ≢ at → IsWritten log views' p
    → IsWritten log views p = λ p ne written. record { within = written.within; filled = sym (other p ne) ∙ written.filled } in
    let now : IsWritten log views' at = record { within = c.within; filled = none } in
    let on : Onward log words views log words' views' =
    record { longer = omega arith; of_log = λ p e is. is; written = forth; archived = omega arith; durable = omega arith; flag = λ raised. omega arith }
    in
    let still : (u : View) → Seated f log words views u → Seated f log words' views' u = λ u s.
    seated_onward f on u (works_still words' u (λ role. archived) (λ role. durable) s.works) s
    in
    let s = still v s0 in
    record {
      ringed = record {
        shape = record { some_slots = some_slots; four_words = four_words; all_words = length-set words (place f at) n ∙ all_words; head = head ∙ shape.head };
        archived = record { from = omega arith; to = omega arith; written = λ p below. forth p (archived_front.written p (omega arith)) };
        durable = record { from = omega arith; to = omega arith; written = λ p below. forth p (durable_front.written p (omega arith)) };
        beyond = λ p far within.
            (let old : 0 < owed views p = r.beyond p (omega arith) within in
            let same = other p (λ e. omega arith) in
            omega arith);
        holds = λ p e from to written is.
            ⊎_elim
            (λ (same : p ≡ at).
            let edge : e ≡ x.edge = lookup-same log p e x.edge is (ap (get_elem? log) same ∙ c.of_log) in
            ap (slot f words') same ∙ here ∙ ap (λ q. word f.slots q x.edge) (sym same) ∙ ap (word f.slots p) (sym edge))
            (λ (ne : p ≢ at). slots p (omega arith) (omega arith) ne ∙ r.holds p e (omega arith) (omega arith) (back p ne written) is) (cases_eq p at);
        waits = λ p from to not.
            ⊎_elim (λ (same : p ≡ at). absurd (not (subst (λ q. IsWritten log views' q) (sym same) now)))
            (λ (ne : p ≢ at).
            ap (is_matched f.slots p) (slots p (omega arith) (omega arith) ne) ∙ r.waits p (omega arith) (omega arith) (λ written. not (forth p written)))
            (cases_eq p at);
      };
      seated = each_set (Seated f log words' views') views i w
          (record {
            ended = λ dead. still_live v _ live dead;
            takes = s.takes;
            sees = s.sees;
            knows = s.knows;
            works = s.works;
            owes = record { pending_of = All-without (IsOf log) at v.pending s.owes.pending_of; abandoned_of = s.owes.abandoned_of; flagged = s.owes.flagged };
            owns = record {
              own = record {
                rising = rising-inserted x v.own c.own s.owns.own.rising;
                of_log = All-inserted (IsOf log) x v.own c.of_log s.owns.own.of_log;
                written = All-inserted (λ y. IsWritten log views' y.at) x v.own now s.owns.own.written;
              };
              joined = s.owns.joined;
            };
            reads = s.reads;
          })
          (λ j u ne at_j. still u (tied.seated j u at_j));
      stand = record {
        once = λ p from to. stand p ∙ tied.stand.once p from to;
        before = λ p less. stand p ∙ tied.stand.before p less;
        after = λ p over. stand p ∙ tied.stand.after p over;
      };
      one_archiver = let old = tied.one_archiver in let same = count_alike (λ u. u.archives) views i v w there refl in omega arith;
      one_flusher = let old = tied.one_flusher in let same = count_alike (λ u. u.flushes) views i v w there refl in omega arith;
      storable = tied.storable;
      flag = flag_alike (flag_in words) (flag_in words') views i v w there (record { disk = refl; memory = refl }) flag tied.flag;
    }
