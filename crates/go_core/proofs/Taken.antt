-- A worker takes the positions one by one: its taken length grows only over the word that it read there.
use Rattle.std.proofs.Common.{◌≡◌, ℕ, suc, ◌+◌, ◌<◌, ◌≤◌, ◌≢◌, Bool, true, false, cond, List, [], ◌∷◌, length, get_or, set, Option, Some, None, sym, refl}
use Rattle.std.proofs.Common.{ap, ◌∙◌, inl, inr, ⊎_elim, arith, subst}
use Rattle.std.specs.Prelude.{find, max, ◌==◌}
use Rattle.std.proofs.lemmas.Bool.{cases_eq, cases_lt, true≢false}
use Rattle.std.proofs.lemmas.List.{get_or-set_same, get_or-set_other, set_past, get_or_past, get_or_append_left, length-set}
use mathlib.Core.Option.{some}
use Rattle.go_word.specs.Word.{is_matched}
use Rattle.go_core.specs.declared.act.Act.{Act}
use Rattle.go_core.specs.declared.act.Act.TheVariants.{Claim, LoadHead, LoadArchived, LoadDurable, StoreWord, LoadOrdered, LoadTentative, StoreArchived}
use Rattle.go_core.specs.declared.act.Act.TheVariants.{StoreDurable, TakeTurn, PartOut, PartIn, GiveTurn, LoadFlag, StoreFlag, Split, Join}
use Rattle.go_core.specs.declared.act.Event.{Event}
use Rattle.go_core.specs.declared.act.Out.{Out}
use Rattle.go_core.specs.declared.act.Out.TheVariants.{Number, Word, Done}
use Rattle.go_core.specs.declared.entry.Entry.{Entry}
use Rattle.go_core.specs.declared.view.View.{View}
use Rattle.go_core.specs.declared.party.Party.{Party}
use Rattle.go_core.specs.Frame.{slot}
use Rattle.go_core.specs.View.{stands_at, took, unmoved}
use Rattle.go_core.specs.Turns.{turn_place, having_turn}
use Rattle.go_core.specs.Acts.{IsSession}
use Rattle.go_core.specs.Machine.{Machine, absent, party_at, turn_in, with_word, with_stake, with_view, Does, Stores, Row}
use Rattle.go_core.specs.History.{Run, IsWorker, HasTaken}
use Rattle.go_core.proofs.Parted.{live_within}
use Rattle.go_core.proofs.Runs.{row_frame}

-- two views with one role that have taken as much
record SameWork (v w : View) : Type 0 where
  archives : w.archives ≡ v.archives
  flushes : w.flushes ≡ v.flushes
  taken : w.taken ≡ v.taken

same_work : (v : View) → SameWork v v
same_work v = record { archives = refl; flushes = refl; taken = refl }

-- an act is a matched word that the party i read in its turn at p
record IsTake (slots j : ℕ) (act : Act) (out : Out) (i p : ℕ) : Type 0 where
  party : j ≡ i
  is : act ≡ LoadOrdered p
  word : ℕ
  answer : out ≡ Word word
  matched : is_matched slots p word ≡ true

-- a worker stays one, and what it has taken since is what it read
record Worked (m now : Machine) (j : ℕ) (act : Act) (out : Out) (i : ℕ) : Type 0 where
  worker : IsWorker (party_at now i).view
  taken : (p : ℕ) → (party_at m i).view.taken ≤ p → p < (party_at now i).view.taken → IsTake m.frame.slots j act out i p

-- nothing was taken
same_worked : (m now : Machine) (j : ℕ) (act : Act) (out : Out) (i : ℕ) → IsWorker (party_at m i).view → SameWork (party_at m i).view (party_at now i).view
    → Worked m now j act out i
same_worked m now j act out i worker same =
    record {
      worker = ⊎_elim (λ role. inl (same.archives ∙ role)) (λ role. inr (same.flushes ∙ role)) worker;
      taken = λ p from to. let still = same.taken in absurd (omega arith);
    }

-- an act that is refused takes nothing
worked_done : (condition : Type 0) (answer : Out) (after m : Machine) (out : Out) (now : Machine) (j : ℕ) (act : Act) (i : ℕ) → IsWorker (party_at m i).view
    → (condition → Worked m after j act answer i) → Does condition answer after m out now → Worked m now j act out i
worked_done condition answer after m out now j act i worker done does =
    ⊎_elim (λ yes'. subst (λ k. Worked m k j act out i) (sym yes'.2) (subst (λ o. Worked m after j act o i) (sym yes'.1) (done yes'.0)))
    (λ not. subst (λ k. Worked m k j act out i) (sym not.2) (same_worked m m j act out i worker (same_work (party_at m i).view))) does

-- a party is replaced by one that has worked as much
set_work : (ps : List Party) (j i : ℕ) (q : Party) → SameWork (get_or ps j absent).view q.view
    → SameWork (get_or ps i absent).view (get_or (set ps j q) i absent).view
set_work ps j i q same =
    ⊎_elim
    (λ (here : i ≡ j).
    ⊎_elim
    (λ (within : j < length ps).
    let is : get_or (set ps j q) i absent ≡ q = ap (λ k. get_or (set ps j q) k absent) here ∙ get_or-set_same ps j q absent within in
    subst (λ z. SameWork (get_or ps i absent).view z.view) (sym is) (subst (λ k. SameWork (get_or ps k absent).view q.view) (sym here) same))
    (λ (past : length ps ≤ j). subst (λ zs. SameWork (get_or ps i absent).view (get_or zs i absent).view) (sym (set_past ps j q past))
    (same_work (get_or ps i absent).view))
    (cases_lt j (length ps)))
    (λ (ne : i ≡ j → ⊥). subst (λ z. SameWork (get_or ps i absent).view z.view) (sym (get_or-set_other ps j i q absent ne))
    (same_work (get_or ps i absent).view))
    (cases_eq i j)

-- a store takes nothing
stores_worked : (m : Machine) (j at : ℕ) (o : Option Entry) (out : Out) (now : Machine) (act : Act) (i : ℕ) → IsWorker (party_at m i).view
    → Stores m j at o out now → Worked m now j act out i
stores_worked m j at None out now act i worker row = subst (λ k. Worked m k j act out i) (sym row.1)
    (same_worked m m j act out i worker (same_work (party_at m i).view))
stores_worked m j at (Some x) out now act i worker row =
    worked_done _ _ _ m out now j act i worker
    (λ can. same_worked m _ j act Done i worker (set_work m.parties j i _ (record { archives = refl; flushes = refl; taken = refl }))) row

-- a word that is read in its turn
reads_worked : (m : Machine) (j at : ℕ) (i : ℕ) → IsWorker (party_at m i).view → at ≤ (party_at m j).view.taken → j < length m.parties → (b : Bool)
    → is_matched m.frame.slots at (slot m.frame m.words at) ≡ b
    → Worked m (with_view j (cond b (took at (party_at m j).view) (unmoved (party_at m j).view)) m) j (LoadOrdered at) (Word (slot m.frame m.words at)) i
reads_worked m j at i worker next within true matched =
    let v = (party_at m j).view in
    let q : Party = record { view = took at v; stake = (party_at m j).stake } in
    let now = with_view j (took at v) m in
    ⊎_elim
    (λ (here : i ≡ j).
    let is : party_at now i ≡ q = ap (λ k. get_or (set m.parties j q) k absent) here ∙ get_or-set_same m.parties j q absent within in
    let old : (party_at m i).view ≡ v = ap (λ k. (party_at m k).view) here in
    record {
      worker = ⊎_elim (λ role. inl (ap (λ z. z.view.archives) is ∙ ap (λ z. z.archives) (sym old) ∙ role))
          (λ role. inr (ap (λ z. z.view.flushes) is ∙ ap (λ z. z.flushes) (sym old) ∙ role)) worker;
      taken = λ p from to.
          (let grown : (party_at now i).view.taken ≡ max v.taken (at + 1) = ap (λ z. z.view.taken) is in
          let before : (party_at m i).view.taken ≡ v.taken = ap (λ z. z.taken) old in
          let only : at ≡ p = omega arith in
          record {
            party = sym here;
            is = ap LoadOrdered only;
            word = slot m.frame m.words at;
            answer = refl;
            matched = ap
                (λ k. is_matched m.frame.slots k (slot m.frame m.words at)) (sym only) ∙ matched;
          });
    })
    (λ (ne : i ≡ j → ⊥).
    let is : party_at now i ≡ party_at m i = get_or-set_other m.parties j i q absent ne in
    same_worked m now j (LoadOrdered at) _ i worker (subst (λ z. SameWork (party_at m i).view z.view) (sym is) (same_work (party_at m i).view)))
    (cases_eq i j)
reads_worked m j at i worker next within false unmatched = same_worked m _ j (LoadOrdered at) _ i worker
    (set_work m.parties j i _ (record { archives = refl; flushes = refl; taken = refl }))

-- a worker is in the list
worker_within : (m : Machine) (i : ℕ) → IsWorker (party_at m i).view → i < length m.parties
worker_within m i worker =
    ⊎_elim (λ less. less)
    (λ (past : length m.parties ≤ i).
    let none = get_or_past m.parties i absent past in
    absurd (⊎_elim (λ role. true≢false (sym role ∙ ap (λ (p : Party). p.view.archives) none))
    (λ role. true≢false (sym role ∙ ap (λ (p : Party). p.view.flushes) none)) worker)) (cases_lt i (length m.parties))

-- a party that is joined in is no worker
joined_other : (m : Machine) (i j : ℕ) → IsWorker (party_at m i).view → IsSession (party_at m j).view → i ≢ j
joined_other m i j worker can same =
    ⊎_elim (λ role. true≢false (sym role ∙ ap (λ k. (party_at m k).view.archives) same ∙ can.archives))
    (λ role. true≢false (sym role ∙ ap (λ k. (party_at m k).view.flushes) same ∙ can.flushes)) worker

-- a turn that is asked for
turn_worked : (m : Machine) (j : ℕ) (b : Bool) (act : Act) (i : ℕ) → IsWorker (party_at m i).view → (free : Bool)
    → Worked m (cond free (with_word (turn_place b) 1 (with_stake j (having_turn b (party_at m j).stake) m))
    (with_view j (unmoved (party_at m j).view) m)) j act (Number (turn_in b m.words)) i
turn_worked m j b act i worker true = same_worked m _ j act _ i worker (set_work m.parties j i _ (record { archives = refl; flushes = refl; taken = refl }))
turn_worked m j b act i worker false = same_worked m _ j act _ i worker (set_work m.parties j i _ (record { archives = refl; flushes = refl; taken = refl }))

-- every row
row_worked : (m : Machine) (j : ℕ) (act : Act) (out : Out) (now : Machine) (i : ℕ) → Row m j act out now → IsWorker (party_at m i).view
    → Worked m now j act out i
row_worked m j (Claim edges) out now i row worker = worked_done _ _ _ m out now j _ i worker
    (λ can. same_worked m _ j _ _ i worker (set_work m.parties j i _ (record { archives = refl; flushes = refl; taken = refl }))) row
row_worked m j LoadHead out now i row worker = worked_done _ _ _ m out now j _ i worker
    (λ can. same_worked m _ j _ _ i worker (set_work m.parties j i _ (record { archives = refl; flushes = refl; taken = refl }))) row
row_worked m j LoadArchived out now i row worker = worked_done _ _ _ m out now j _ i worker
    (λ can. same_worked m _ j _ _ i worker (set_work m.parties j i _ (record { archives = refl; flushes = refl; taken = refl }))) row
row_worked m j LoadDurable out now i row worker = worked_done _ _ _ m out now j _ i worker
    (λ can. same_worked m _ j _ _ i worker (set_work m.parties j i _ (record { archives = refl; flushes = refl; taken = refl }))) row
row_worked m j (StoreWord at) out now i row worker = stores_worked m j at (find (stands_at at) (party_at m j).view.pending) out now (StoreWord at) i worker row
row_worked m j (LoadOrdered at) out now i row worker =
    worked_done _ _ _ m out now j _ i worker
    (λ can. reads_worked m j at i worker can.1.next (live_within m j can.0) (is_matched m.frame.slots at (slot m.frame m.words at)) refl) row
row_worked m j (LoadTentative at) out now i row worker = worked_done _ _ _ m out now j _ i worker
    (λ can. same_worked m _ j _ _ i worker (set_work m.parties j i _ (record { archives = refl; flushes = refl; taken = refl }))) row
row_worked m j (StoreArchived front) out now i row worker = worked_done _ _ _ m out now j _ i worker
    (λ can. same_worked m _ j _ _ i worker (set_work m.parties j i _ (record { archives = refl; flushes = refl; taken = refl }))) row
row_worked m j (StoreDurable front) out now i row worker = worked_done _ _ _ m out now j _ i worker
    (λ can. same_worked m _ j _ _ i worker (set_work m.parties j i _ (record { archives = refl; flushes = refl; taken = refl }))) row
row_worked m j (TakeTurn part) out now i row worker = worked_done _ _ _ m out now j _ i worker
    (λ can. turn_worked m j (part == 0) (TakeTurn part) i worker (turn_in (part == 0) m.words == 0)) row
row_worked m j (PartOut part) out now i row worker = worked_done _ _ _ m out now j _ i worker
    (λ can. same_worked m _ j _ _ i worker (set_work m.parties j i _ (record { archives = refl; flushes = refl; taken = refl }))) row
row_worked m j (PartIn part state) out now i row worker = worked_done _ _ _ m out now j _ i worker
    (λ can. same_worked m _ j _ _ i worker (set_work m.parties j i _ (record { archives = refl; flushes = refl; taken = refl }))) row
row_worked m j (GiveTurn part) out now i row worker = worked_done _ _ _ m out now j _ i worker
    (λ can. same_worked m _ j _ _ i worker (set_work m.parties j i _ (record { archives = refl; flushes = refl; taken = refl }))) row
row_worked m j LoadFlag out now i row worker = worked_done _ _ _ m out now j _ i worker
    (λ can. same_worked m _ j _ _ i worker (set_work m.parties j i _ (record { archives = refl; flushes = refl; taken = refl }))) row
row_worked m j (StoreFlag why) out now i row worker = worked_done _ _ _ m out now j _ i worker
    (λ can. same_worked m _ j _ _ i worker (set_work m.parties j i _ (record { archives = refl; flushes = refl; taken = refl }))) row
row_worked m j Split out now i row worker =
    worked_done _ _ _ m out now j _ i worker
    (λ can.
    (let q : Party = record { view = unmoved (party_at m j).view; stake = (party_at m j).stake } in
    let set' = set m.parties j q in
    let inside : i < length set' = let less = worker_within m i worker in let long = length-set m.parties j q in omega arith in
    let same = set_work m.parties j i q (record { archives = refl; flushes = refl; taken = refl }) in
    same_worked m _ j _ _ i worker (subst (λ (z : Party). SameWork (party_at m i).view z.view) (sym (get_or_append_left set' _ absent i inside)) same))) row
row_worked m j (Join k) out now i row worker =
    worked_done _ _ _ m out now j _ i worker
    (λ can.
    (let ne = joined_other m i k worker can.3 in
    same_worked m _ j _ _ i worker
    (subst (λ (z : Party). SameWork (party_at m i).view z.view) (sym (get_or-set_other _ k i absent absent ne))
    (set_work m.parties j i _ (record { archives = refl; flushes = refl; taken = refl }))))) row

-- over a run
pub run_taken : (m : Machine) (es : List Event) (outs : List Out) (now : Machine) → Run m es outs now → (i p : ℕ) → IsWorker (party_at m i).view
    → (party_at m i).view.taken ≤ p → p < (party_at now i).view.taken → HasTaken m.frame.slots es outs i p
run_taken m es [] now run i p worker from to = let same : (party_at now i).view.taken ≡ (party_at m i).view.taken = ap (λ k. (party_at k i).view.taken) run in
    absurd (omega arith)
run_taken m [] (out ∷ outs) now run i p worker from to = absurd run
run_taken m (e ∷ es) (out ∷ outs) now run i p worker from to =
    let next = run.0 in
    let w = row_worked m e.party e.act out next i run.1 worker in
    ⊎_elim
    (λ (here : p < (party_at next i).view.taken).
    let t = w.taken p from here in
    record {
      place = 0;
      word = t.word;
      event = ap some
          (same_event e.party i e.act (LoadOrdered p) t.party t.is);
      answer = ap some t.answer;
      matched = t.matched;
    })
    (λ (later : (party_at next i).view.taken ≤ p).
    let rest = run_taken next es outs now run.2 i p w.worker later to in
    record {
      place = suc rest.place;
      word = rest.word;
      event = rest.event;
      answer = rest.answer;
      matched = subst (λ f. is_matched f.slots p rest.word ≡ true)
          (row_frame m e.party e.act out next run.1) rest.matched;
    })
    (cases_lt p (party_at next i).view.taken)
  where
    same_event : (j i : ℕ) (a b : Act) → j ≡ i → a ≡ b → ◌≡◌ {A = Event} (record { party = j; act = a }) (record { party = i; act = b })
    same_event j i a b one two = λ k. record { party = one k; act = two k }
