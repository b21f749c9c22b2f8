-- What holds of each row holds over a whole run.
use Rattle.std.proofs.Common.{◌≡◌, ℕ, zero, suc, ◌+◌, ◌<◌, ◌≤◌, ◌≢◌, Bool, true, false, cond, List, [], ◌∷◌, ◌++◌, length, get_or, set, take, drop, Option}
use Rattle.std.proofs.Common.{Some, None, sym, refl, ap, ◌∙◌, ⊎_elim, arith, subst, append-nil, append_assoc, take-append-drop}
use Rattle.std.specs.Prelude.{find, ◌==◌}
use Rattle.std.proofs.lemmas.List.{length_push, length-append, length-take-le, drop_more, drop_at, take_at}
use mathlib.Core.Option.{some, some-injective, some-ne-none}
use lib.ListN.{get_elem?}
use Rattle.go_word.specs.declared.edge.Edge.{Edge}
use Rattle.go_word.specs.Word.{is_matched, decode}
use Rattle.go_core.specs.declared.act.Act.{Act}
use Rattle.go_core.specs.declared.act.Act.TheVariants.{Claim, LoadHead, LoadArchived, LoadDurable, StoreWord, LoadOrdered, LoadTentative, StoreArchived}
use Rattle.go_core.specs.declared.act.Act.TheVariants.{StoreDurable, TakeTurn, PartOut, PartIn, GiveTurn, LoadFlag, StoreFlag, Split, Join}
use Rattle.go_core.specs.declared.act.Event.{Event}
use Rattle.go_core.specs.declared.act.Out.{Out}
use Rattle.go_core.specs.declared.act.Out.TheVariants.{Word, Refused}
use Rattle.go_core.specs.declared.entry.Entry.{Entry}
use Rattle.go_core.specs.Frame.{place, slot, head_in, archived_in, durable_in, released}
use Rattle.go_core.specs.View.{stands_at, unmoved}
use Rattle.go_core.specs.Turns.{turn_place, having_turn}
use Rattle.go_core.specs.Acts.{CanTake}
use Rattle.go_core.specs.Machine.{Machine, IsTied, views_of, turn_in, party_at, with_word, with_stake, with_view, Does, Stores, Row, claims}
use Rattle.go_core.specs.History.{Run, all_claims, IsRead}
use Rattle.go_core.proofs.Lookups.{lookup-longer}
use Rattle.go_core.proofs.Loads.{matched_is, matched-decode}
use Rattle.go_core.proofs.Moved.{four_there, word_here, word_other}
use Rattle.go_core.proofs.Parted.{party_there}
use Rattle.go_core.proofs.Rows.{row_keeps}

-- what holds of the machine before and of the one after a done act holds after the act
either_way : (P : Machine → Type 0) (condition : Type 0) (answer : Out) (after before : Machine) (out : Out) (now : Machine) → P before
    → (condition → P after) → Does condition answer after before out now → P now
either_way P condition answer after before out now same done does = ⊎_elim (λ yes'. subst P (sym yes'.2) (done yes'.0)) (λ not. subst P (sym not.2) same) does

-- a store goes either way too
stores_either : (P : Machine → Type 0) (m : Machine) (i at : ℕ) (o : Option Entry) (out : Out) (now : Machine) → P m
    → ((k n : ℕ) (after : Machine) → after.words ≡ set m.words (place m.frame at) n → after.frame ≡ m.frame → P after) → Stores m i at o out now → P now
stores_either P m i at None out now same done row = subst P (sym row.1) same
stores_either P m i at (Some x) out now same done row = either_way P _ _ _ m out now same (λ can. done 0 _ _ refl refl) row

-- a turn that is asked for
turn_frame : (m : Machine) (i : ℕ) (b free : Bool)
    → (cond free (with_word (turn_place b) 1 (with_stake i (having_turn b (party_at m i).stake) m))
    (with_view i (unmoved (party_at m i).view) m)).frame ≡ m.frame
turn_frame m i b true = refl
turn_frame m i b false = refl

-- the frame stays
pub row_frame : (m : Machine) (i : ℕ) (act : Act) (out : Out) (now : Machine) → Row m i act out now → now.frame ≡ m.frame
row_frame m i (Claim edges) out now row = either_way (λ n. n.frame ≡ m.frame) _ _ _ m out now refl (λ can. refl) row
row_frame m i LoadHead out now row = either_way (λ n. n.frame ≡ m.frame) _ _ _ m out now refl (λ can. refl) row
row_frame m i LoadArchived out now row = either_way (λ n. n.frame ≡ m.frame) _ _ _ m out now refl (λ can. refl) row
row_frame m i LoadDurable out now row = either_way (λ n. n.frame ≡ m.frame) _ _ _ m out now refl (λ can. refl) row
row_frame m i (StoreWord at) out now row = stores_either (λ n. n.frame ≡ m.frame) m i at (find (stands_at at) (party_at m i).view.pending) out now refl
    (λ k n after words frame. frame) row
row_frame m i (LoadOrdered at) out now row = either_way (λ n. n.frame ≡ m.frame) _ _ _ m out now refl (λ can. refl) row
row_frame m i (LoadTentative at) out now row = either_way (λ n. n.frame ≡ m.frame) _ _ _ m out now refl (λ can. refl) row
row_frame m i (StoreArchived front) out now row = either_way (λ n. n.frame ≡ m.frame) _ _ _ m out now refl (λ can. refl) row
row_frame m i (StoreDurable front) out now row = either_way (λ n. n.frame ≡ m.frame) _ _ _ m out now refl (λ can. refl) row
row_frame m i (TakeTurn part) out now row = either_way (λ n. n.frame ≡ m.frame) _ _ _ m out now refl
    (λ can. turn_frame m i (part == 0) (turn_in (part == 0) m.words == 0)) row
row_frame m i (PartOut part) out now row = either_way (λ n. n.frame ≡ m.frame) _ _ _ m out now refl (λ can. refl) row
row_frame m i (PartIn part state) out now row = either_way (λ n. n.frame ≡ m.frame) _ _ _ m out now refl (λ can. refl) row
row_frame m i (GiveTurn part) out now row = either_way (λ n. n.frame ≡ m.frame) _ _ _ m out now refl (λ can. refl) row
row_frame m i LoadFlag out now row = either_way (λ n. n.frame ≡ m.frame) _ _ _ m out now refl (λ can. refl) row
row_frame m i (StoreFlag why) out now row = either_way (λ n. n.frame ≡ m.frame) _ _ _ m out now refl (λ can. refl) row
row_frame m i Split out now row = either_way (λ n. n.frame ≡ m.frame) _ _ _ m out now refl (λ can. refl) row
row_frame m i (Join j) out now row = either_way (λ n. n.frame ≡ m.frame) _ _ _ m out now refl (λ can. refl) row

-- a write past the fronts leaves them
past_fronts : (words : List ℕ) (k n : ℕ) → 1 ≢ k → 2 ≢ k → released (set words k n) ≡ released words
past_fronts words k n one two =
    let archived : archived_in (set words k n) ≡ archived_in words = word_other words k 1 n one in
    let durable : durable_in (set words k n) ≡ durable_in words = word_other words k 2 n two in
    omega arith

-- nor does a turn word touch them
past_turn : (words : List ℕ) (b : Bool) (n : ℕ) → released (set words (turn_place b) n) ≡ released words
past_turn words true n = past_fronts words 4 n (λ e. omega arith) (λ e. omega arith)
past_turn words false n = past_fronts words 5 n (λ e. omega arith) (λ e. omega arith)

turn_released : (m : Machine) (i : ℕ) (b free : Bool)
    → released m.words ≤ released
    (cond free (with_word (turn_place b) 1 (with_stake i (having_turn b (party_at m i).stake) m)) (with_view i (unmoved (party_at m i).view) m)).words
turn_released m i b true = let same = past_turn m.words b 1 in omega arith
turn_released m i b false = omega arith

-- released never falls
pub row_released : (m : Machine) (i : ℕ) (act : Act) (out : Out) (now : Machine) (log : List Edge) → Row m i act out now → IsTied m log
    → released m.words ≤ released now.words
row_released m i (Claim edges) out now log row tied =
    either_way (λ n. released m.words ≤ released n.words) _ _ _ m out now (omega arith)
    (λ can. let same = past_fronts m.words 0 (head_in m.words + length edges) (λ e. omega arith) (λ e. omega arith) in omega arith) row
row_released m i LoadHead out now log row tied = either_way (λ n. released m.words ≤ released n.words) _ _ _ m out now (omega arith) (λ can. omega arith) row
row_released m i LoadArchived out now log row tied = either_way (λ n. released m.words ≤ released n.words) _ _ _ m out now (omega arith)
    (λ can. omega arith) row
row_released m i LoadDurable out now log row tied = either_way (λ n. released m.words ≤ released n.words) _ _ _ m out now (omega arith) (λ can. omega arith) row
row_released m i (StoreWord at) out now log row tied =
    let base = tied.tied.ringed.shape.four_words in
    stores_either (λ n. released m.words ≤ released n.words) m i at (find (stands_at at) (party_at m i).view.pending) out now (omega arith)
    (λ k n after words frame.
    (let same : released (set m.words (place m.frame at) n) ≡ released m.words = past_fronts m.words (place m.frame at) n (λ e. omega arith)
    (λ e. omega arith) in
    let is : released after.words ≡ released (set m.words (place m.frame at) n) = ap released words in
    omega arith)) row
row_released m i (LoadOrdered at) out now log row tied = either_way (λ n. released m.words ≤ released n.words) _ _ _ m out now (omega arith)
    (λ can. omega arith) row
row_released m i (LoadTentative at) out now log row tied = either_way (λ n. released m.words ≤ released n.words) _ _ _ m out now (omega arith)
    (λ can. omega arith) row
row_released m i (StoreArchived front) out now log row tied =
    let long = four_there m.frame log m.words (views_of m.parties) tied.tied in
    either_way (λ n. released m.words ≤ released n.words) _ _ _ m out now (omega arith)
    (λ can.
    (let onward = can.1.onward in
    let archived : archived_in (set m.words 1 front) ≡ front = word_here m.words 1 front (omega arith) in
    let durable : durable_in (set m.words 1 front) ≡ durable_in m.words = word_other m.words 1 2 front (λ e. omega arith) in
    omega arith)) row
row_released m i (StoreDurable front) out now log row tied =
    let long = four_there m.frame log m.words (views_of m.parties) tied.tied in
    either_way (λ n. released m.words ≤ released n.words) _ _ _ m out now (omega arith)
    (λ can.
    (let onward = can.1.onward in
    let durable : durable_in (set m.words 2 front) ≡ front = word_here m.words 2 front (omega arith) in
    let archived : archived_in (set m.words 2 front) ≡ archived_in m.words = word_other m.words 2 1 front (λ e. omega arith) in
    omega arith)) row
row_released m i (TakeTurn part) out now log row tied =
    either_way (λ n. released m.words ≤ released n.words) _ _ _ m out now (omega arith)
    (λ can. turn_released m i (part == 0) (turn_in (part == 0) m.words == 0)) row
row_released m i (PartOut part) out now log row tied = either_way (λ n. released m.words ≤ released n.words) _ _ _ m out now (omega arith)
    (λ can. omega arith) row
row_released m i (PartIn part state) out now log row tied = either_way (λ n. released m.words ≤ released n.words) _ _ _ m out now (omega arith)
    (λ can. omega arith) row
row_released m i (GiveTurn part) out now log row tied =
    either_way (λ n. released m.words ≤ released n.words) _ _ _ m out now (omega arith) (λ can. let same = past_turn m.words (part == 0) 0 in omega arith) row
row_released m i LoadFlag out now log row tied = either_way (λ n. released m.words ≤ released n.words) _ _ _ m out now (omega arith) (λ can. omega arith) row
row_released m i (StoreFlag why) out now log row tied =
    either_way (λ n. released m.words ≤ released n.words) _ _ _ m out now (omega arith)
    (λ can. let same = past_fronts m.words 3 why (λ e. omega arith) (λ e. omega arith) in omega arith) row
row_released m i Split out now log row tied = either_way (λ n. released m.words ≤ released n.words) _ _ _ m out now (omega arith) (λ can. omega arith) row
row_released m i (Join j) out now log row tied = either_way (λ n. released m.words ≤ released n.words) _ _ _ m out now (omega arith) (λ can. omega arith) row

-- an answer with a word is of one word, and is no refusal
pub same_word : (a b : ℕ) → Word a ≡ Word b → a ≡ b
same_word a b e = cc

pub word-refused : (a : ℕ) → Word a ≡ Refused → ⊥
word-refused a e = cc

-- a matched word that was read in its turn is the log's
pub row_ordered : (m : Machine) (i at x : ℕ) (now : Machine) (log : List Edge) → Row m i (LoadOrdered at) (Word x) now → IsTied m log
    → is_matched m.frame.slots at x ≡ true → get_elem? log at ≡ some (decode x)
row_ordered m i at x now log row tied matched =
    let t = tied.tied in
    let r = t.ringed in
    ⊎_elim
    (λ yes'.
    let v = (party_at m i).view in
    let is : x ≡ slot m.frame m.words at = same_word x (slot m.frame m.words at) yes'.1 in
    let can : CanTake m.words v at = yes'.0.1 in
    let s = t.seated i v (party_there m i yes'.0.0) in
    let taken = s.takes.to in
    let next = can.next in
    let from : released m.words ≤ at = ⊎_elim (λ role. let past : archived_in m.words ≤ at = role.1 in omega arith)
    (λ role. let past : durable_in m.words ≤ at = role.1 in omega arith) can.role in
    let archived_from = r.archived.from in
    let durable_from = r.durable.from in
    let found = matched_is m.frame log m.words (views_of m.parties) at v.seen t s.sees.written (omega arith) from
    (ap (is_matched m.frame.slots at) (sym is) ∙ matched) in
    let same : decode x ≡ found.edge = ap decode {x = x} is ∙ matched-decode m.frame log m.words (views_of m.parties) at t (omega arith) found in
    found.there ∙ ap some (sym same))
    (λ not. absurd (word-refused x not.1)) row

-- a run keeps the machine tied, to the log before followed by what was claimed
pub run_tied : (m : Machine) (es : List Event) (outs : List Out) (now : Machine) (log : List Edge) → Run m es outs now → IsTied m log
    → IsTied now (log ++ all_claims es outs)
run_tied m es [] now log run tied = subst (λ k. IsTied k (log ++ [])) (sym run) (subst (λ l. IsTied m l) (sym (append-nil log)) tied)
run_tied m [] (out ∷ outs) now log run tied = absurd run
run_tied m (e ∷ es) (out ∷ outs) now log run tied =
    let next = run.0 in
    let kept = row_keeps m e.party e.act out next log run.1 tied in
    let rest = run_tied next es outs now (log ++ claims e.act out) run.2 kept in
    subst (λ l. IsTied now l) (append_assoc log (claims e.act out) (all_claims es outs)) rest

-- released never falls over a run
pub run_released : (m : Machine) (es : List Event) (outs : List Out) (now : Machine) (log : List Edge) → Run m es outs now → IsTied m log
    → released m.words ≤ released now.words
run_released m es [] now log run tied = let same : released now.words ≡ released m.words = ap (λ k. released k.words) run in omega arith
run_released m [] (out ∷ outs) now log run tied = absurd run
run_released m (e ∷ es) (out ∷ outs) now log run tied =
    let next = run.0 in
    let kept = row_keeps m e.party e.act out next log run.1 tied in
    let first = row_released m e.party e.act out next log run.1 tied in
    let rest = run_released next es outs now (log ++ claims e.act out) run.2 kept in
    omega arith

-- and each matched word that was read in its turn is the log's
pub run_ordered : (m : Machine) (es : List Event) (outs : List Out) (now : Machine) (log : List Edge) → Run m es outs now → IsTied m log → (k p x : ℕ)
    → IsRead es outs k p x → is_matched m.frame.slots p x ≡ true → get_elem? (log ++ all_claims es outs) p ≡ some (decode x)
run_ordered m es [] now log run tied k p x read matched = absurd (some-ne-none (Word x) (sym read.answer))
run_ordered m [] (out ∷ outs) now log run tied k p x read matched = absurd run
run_ordered m (e ∷ es) (out ∷ outs) now log run tied zero p x read matched =
    let next = run.0 in
    let event : e ≡ record { party = read.party; act = LoadOrdered p } = some-injective e _ read.event in
    let answer : out ≡ Word x = some-injective out (Word x) read.answer in
    let row : Row m e.party (LoadOrdered p) (Word x) next = subst (λ o. Row m e.party (LoadOrdered p) o next) answer
    (subst (λ a. Row m e.party a out next) (ap (λ z. z.act) event) run.1) in
    lookup-longer log (claims e.act out ++ all_claims es outs) p (decode x) (row_ordered m e.party p x next log row tied matched)
run_ordered m (e ∷ es) (out ∷ outs) now log run tied (suc k) p x read matched =
    let next = run.0 in
    let kept = row_keeps m e.party e.act out next log run.1 tied in
    let frame = row_frame m e.party e.act out next run.1 in
    let rest = run_ordered next es outs now (log ++ claims e.act out) run.2 kept k p x
    (record { party = read.party; event = read.event; answer = read.answer }) (subst (λ f. is_matched f.slots p x ≡ true) (sym frame) matched) in
    subst (λ l. get_elem? l p ≡ some (decode x)) (append_assoc log (claims e.act out) (all_claims es outs)) rest

-- one more step at the end of a run
pub run_more : (m : Machine) (done : List Event) (e : Event) (rest : List Event) (outs : List Out) (out : Out) (mid now : Machine) → length outs ≡ length done
    → Run m (done ++ e ∷ rest) outs mid → Row mid e.party e.act out now → Run m (done ++ e ∷ rest) (outs ++ out ∷ []) now
run_more m [] e rest [] out mid now same run row = (now, subst (λ k. Row k e.party e.act out now) run row, refl)
run_more m [] e rest (o ∷ os) out mid now same run row = absurd (omega arith)
run_more m (d ∷ ds) e rest [] out mid now same run row = absurd (omega arith)
run_more m (d ∷ ds) e rest (o ∷ os) out mid now same run row = (run.0, run.1, run_more run.0 ds e rest os out mid now (omega arith) run.2 row)

-- a replay so far: the first i events were done and answered
pub record Replayed (before now : Machine) (es : List Event) (old outs : List Out) (i : ℕ) : Type 0 where
  pub answers : List Out
  pub added : outs ≡ old ++ answers
  pub many : length answers ≡ i
  pub run : Run before es answers now

-- nothing was done yet
pub replayed_none : (before : Machine) (es : List Event) (old : List Out) → Replayed before before es old old 0
replayed_none before es old = record { answers = []; added = sym (append-nil old); many = refl; run = refl }

-- one more event was done
pub replayed_more : (before mid now : Machine) (es : List Event) (old outs outs' : List Out) (i : ℕ) (d : Event) (out : Out) → i < length es
    → Replayed before mid es old outs i → Row mid (get_or es i d).party (get_or es i d).act out now → outs' ≡ outs ++ out ∷ []
    → Replayed before now es old outs' (i + 1)
replayed_more before mid now es old outs outs' i d out within r row more =
    let e = get_or es i d in
    let split : es ≡ take i es ++ e ∷ drop (i + 1) es = sym (take-append-drop i es) ∙ ap (λ ys. take i es ++ ys) (drop_more es i d within) in
    let done : length (take i es) ≡ i = length-take-le i es (omega arith) in
    let many = r.many in
    let run : Run before (take i es ++ e ∷ drop (i + 1) es) r.answers mid = subst (λ ys. Run before ys r.answers mid) split r.run in
    record {
      answers = r.answers ++ out ∷ [];
      added = more ∙ ap (λ ys. ys ++ out ∷ []) r.added ∙ append_assoc old r.answers (out ∷ []);
      many = length_push r.answers out ∙ omega arith;
      run = subst (λ ys. Run before ys (r.answers ++ out ∷ []) now) (sym split)
          (run_more before (take i es) e (drop (i + 1) es) r.answers out mid now (omega arith) run row);
    }

-- what was answered stands after what stood there before
pub replayed_answers : (before now : Machine) (es : List Event) (old outs : List Out) (i n : ℕ) → n ≡ length old → (r : Replayed before now es old outs i)
    → (drop n outs ≡ r.answers) × (take n outs ≡ old)
replayed_answers before now es old outs i n long r =
    (ap (drop n) r.added ∙ drop_at old r.answers n (sym long), ap (take n) r.added ∙ take_at old r.answers n (sym long))

pub replayed_run : (before now : Machine) (es : List Event) (old outs : List Out) (i n : ℕ) → n ≡ length old → Replayed before now es old outs i
    → Run before es (drop n outs) now
replayed_run before now es old outs i n long r = subst (λ ys. Run before es ys now) (sym (replayed_answers before now es old outs i n long r).0) r.run

pub replayed_kept : (before now : Machine) (es : List Event) (old outs : List Out) (i n : ℕ) → n ≡ length old → Replayed before now es old outs i
    → take n outs ≡ old
replayed_kept before now es old outs i n long r = (replayed_answers before now es old outs i n long r).1

pub replayed_many : (before now : Machine) (es : List Event) (old outs : List Out) (i n : ℕ) → n ≡ length old → Replayed before now es old outs i
    → length outs ≡ n + i
replayed_many before now es old outs i n long r = let many = r.many in let whole = length-append old r.answers in let is = ap length r.added in omega arith
