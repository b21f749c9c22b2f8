-- A claim: the log grows by its entries, which the party owes from then on.
use Rattle.std.proofs.Common.{◌≡◌, ℕ, ◌+◌, ◌-◌, ◌<◌, ◌≤◌, true, List, ◌++◌, length, set, sym, refl, ap, ◌∙◌, ⊎_elim, arith, subst}
use Rattle.std.specs.Prelude.{All, sum_by}
use Rattle.std.proofs.lemmas.Bool.{cases_lt}
use Rattle.std.proofs.lemmas.List.{length-append, length-set}
use Rattle.std.proofs.lemmas.List.Elements.{All-append}
use mathlib.Core.Option.{some}
use lib.ListN.{get_elem?}
use Rattle.go_word.specs.declared.edge.Edge.{Edge}
use Rattle.go_word.specs.Word.{IsStorable, is_matched}
use Rattle.go_core.specs.declared.view.View.{View}
use Rattle.go_core.specs.Frame.{Frame, place, slot, head_in, archived_in, durable_in, flag_in, released}
use Rattle.go_core.specs.View.{count_at, unfilled, stands, numbered, claimed}
use Rattle.go_core.specs.Rule.{IsOf, owed, IsWritten, Seated, TiedBy}
use Rattle.go_core.proofs.Lookups.{lookup-within, lookup-longer, lookup-shorter, lookup-after, get_or-lookup}
use Rattle.go_core.proofs.Totals.{total-set}
use Rattle.go_core.proofs.Entries.{count_at-append, count_at-numbered_before, count_at-numbered_after, count_at-numbered_within, IsOf-numbered}
use Rattle.go_core.proofs.Onward.{Onward, seated_onward, works_still, each_set}
use Rattle.go_core.proofs.Moved.{count_alike, flag_alike, word_other, word_here}
use Rattle.go_core.proofs.Loads.{still_live}

-- what holds of each element holds at each place
pub All-lookup : {A : Type 0} (P : A → Type 0) (xs : List A) (i : ℕ) (a : A) → All P xs → get_elem? xs i ≡ some a → P a
All-lookup P xs i a all there = subst P (get_or-lookup xs i a a there) (all i a (lookup-within xs i a there))

-- what a claim adds to what its party owes and to what stands in its view
claimed_owes : (p n : ℕ) (es : List Edge) (v : View) → unfilled p (claimed n es v) ≡ unfilled p v + count_at p (numbered n es)
claimed_owes p n es v = omega (arith, count_at-append p v.pending (numbered n es))

claimed_stands : (p n : ℕ) (es : List Edge) (v : View) → stands p (claimed n es v) ≡ stands p v + count_at p (numbered n es)
claimed_stands p n es v = omega (arith, count_at-append p v.pending (numbered n es))

pub claim_keeps : (f : Frame) (log es : List Edge) (words : List ℕ) (views : List View) (i : ℕ) (v : View) → get_elem? views i ≡ some v → v.live ≡ true
    → All IsStorable es
    → TiedBy f log words views → TiedBy f (log ++ es) (set words 0 (length log + length es)) (set views i (claimed (length log) es v))
claim_keeps f log es words views i v there live storable tied =
    let r = tied.ringed in
    let h = length log in
    let n : ℕ = length log + length es in
    let log' = log ++ es in
    let w = claimed h es v in
    let words' = set words 0 n in
    let views' = set views i w in
    let more : ℕ → ℕ = λ p. count_at p (numbered h es) in
    let shape = r.shape in
    let some_slots = shape.some_slots in
    let four_words = shape.four_words in
    let all_words = shape.all_words in
    let archived_from = r.archived.from in
    let archived_to = r.archived.to in
    let durable_from = r.durable.from in
    let durable_to = r.durable.to in
    let long : length log' ≡ n = length-append log es in
    let head : head_in words' ≡ n = word_here words 0 n (omega arith) in
    let archived : archived_in words' ≡ archived_in words = word_other words 0 1 n (λ e. omega arith) in
    let durable : durable_in words' ≡ durable_in words = word_other words 0 2 n (λ e. omega arith) in
    let flag : flag_in words' ≡ flag_in words = word_other words 0 3 n (λ e. omega arith) in
    let slots : (p : ℕ) → slot f words' p ≡ slot f words p = λ p. word_other words 0 (place f p) n (λ e. omega arith) in
    let front : released words' ≡ released words = omega arith in
    let owe : (p : ℕ) → owed views' p ≡ owed views p + more p = λ p.
    (let e : owed views' p + unfilled p v ≡ owed views p + unfilled p w = total-set (unfilled p) views i v w there in
    let m = claimed_owes p h es v in
    omega arith)
    in
    let stand : (p : ℕ) → sum_by (stands p) views' ≡ sum_by (stands p) views + more p = λ p.
    (let e : sum_by (stands p) views' + stands p v ≡ sum_by (stands p) views + stands p w = total-set (stands p) views i v w there in
    let m = claimed_stands p h es v in
    omega arith)
    in
    let forth : (p : ℕ) → IsWritten log views p → IsWritten log' views' p = λ p written.
    (let within = written.within in
    let filled = written.filled in
    let none : more p ≡ 0 = count_at-numbered_before p h es within in
    let total = owe p in
    record { within = omega arith; filled = omega arith })
    in
    let back : (p : ℕ) → IsWritten log' views' p → IsWritten log views p = λ p written.
    (let within = written.within in
    let filled = written.filled in
    let total = owe p in
    let inside : p < h =
    ⊎_elim (λ less. less)
    (λ (over : h ≤ p). let one : more p ≡ 1 = count_at-numbered_within p h es over (omega arith) in absurd (omega arith))
    (cases_lt p h)
    in
    record { within = inside; filled = omega arith })
    in
    let on : Onward log words views log' words' views' =
    record {
      longer = omega arith;
      of_log = λ p e is. lookup-longer log es p e is;
      written = forth;
      archived = omega arith;
      durable = omega arith;
      flag = λ raised. omega arith;
    }
    in
    let still : (u : View) → Seated f log words views u → Seated f log' words' views' u = λ u s.
    seated_onward f on u (works_still words' u (λ role. archived) (λ role. durable) s.works) s
    in
    let s = still v (tied.seated i v there) in
    record {
      ringed = record {
        shape = record { some_slots = some_slots; four_words = four_words; all_words = length-set words 0 n ∙ all_words; head = head ∙ sym long };
        archived = record { from = omega arith; to = omega arith; written = λ p below. forth p (r.archived.written p (omega arith)) };
        durable = record { from = omega arith; to = omega arith; written = λ p below. forth p (r.durable.written p (omega arith)) };
        beyond = λ p far within.
            (let total = owe p in
            ⊎_elim (λ (less : p < h). let old : 0 < owed views p = r.beyond p (omega arith) less in omega arith)
            (λ (over : h ≤ p). let one : more p ≡ 1 = count_at-numbered_within p h es over (omega arith) in omega arith) (cases_lt p h));
        holds = λ p e from to written there'.
            (let old = back p written in
            slots p ∙ r.holds p e (omega arith) (omega arith) old (lookup-shorter log es p e old.within there'));
        waits = λ p from to not. ap (is_matched f.slots p) (slots p) ∙ r.waits p (omega arith) (omega arith) (λ written. not (forth p written));
      };
      seated = each_set (Seated f log' words' views') views i w
          (record {
            ended = λ dead. still_live v _ live dead;
            takes = s.takes;
            sees = s.sees;
            knows = s.knows;
            works = s.works;
            owes = record {
              pending_of = All-append (IsOf log') v.pending (numbered h es) s.owes.pending_of (IsOf-numbered log es);
              abandoned_of = s.owes.abandoned_of;
              flagged = s.owes.flagged;
            };
            owns = s.owns;
            reads = s.reads;
          })
          (λ j u ne at_j. still u (tied.seated j u at_j));
      stand = record {
        once = λ p from to.
            (let total = stand p in
            ⊎_elim
            (λ (less : p < h).
            let old : sum_by (stands p) views ≡ 1 = tied.stand.once p from less in
            let none : more p ≡ 0 = count_at-numbered_before p h es less in
            omega arith)
            (λ (over : h ≤ p).
            let old : sum_by (stands p) views ≡ 0 = tied.stand.after p over in
            let one : more p ≡ 1 = count_at-numbered_within p h es over (omega arith) in
            omega arith)
            (cases_lt p h));
        before = λ p less.
            (let total = stand p in
            let old = tied.stand.before p less in
            let none : more p ≡ 0 = count_at-numbered_before p h es (omega arith) in
            omega arith);
        after = λ p over.
            (let total = stand p in
            let old = tied.stand.after p (omega arith) in
            let none : more p ≡ 0 = count_at-numbered_after p h es (omega arith) in
            omega arith);
      };
      one_archiver = let old = tied.one_archiver in let same = count_alike (λ u. u.archives) views i v w there refl in omega arith;
      one_flusher = let old = tied.one_flusher in let same = count_alike (λ u. u.flushes) views i v w there refl in omega arith;
      storable = λ p e from there'.
          ⊎_elim (λ (less : p < h). tied.storable p e from (lookup-shorter log es p e less there'))
          (λ (over : h ≤ p).
          let k : ℕ = p - h in
          let is : length log + k ≡ p = omega arith in
          All-lookup IsStorable es k e storable (sym (lookup-after log es k) ∙ ap (get_elem? log') is ∙ there'))
          (cases_lt p h);
      flag = flag_alike (flag_in words) (flag_in words') views i v w there (record { disk = refl; memory = refl }) flag tied.flag;
    }
