-- What words that were read ahead of their turn tell over a run, once a front at or below them was read.
use Rattle.std.proofs.Common.{◌≡◌, ℕ, zero, suc, ◌+◌, ◌<◌, ◌≤◌, true, false, List, [], ◌∷◌, ◌++◌, sym, refl, ap, ◌∙◌, ⊎_elim, arith, subst, append_assoc}
use Rattle.std.specs.Prelude.{All}
use Rattle.std.proofs.lemmas.Bool.{cases_lt, both_ways}
use Rattle.std.proofs.lemmas.List.Elements.{All-nil, All-weaker}
use mathlib.Core.Option.{some, some-injective, some-ne-none}
use lib.ListN.{get_elem?}
use Rattle.go_word.specs.declared.edge.Edge.{Edge}
use Rattle.go_word.specs.Word.{word, is_matched, decode}
use Rattle.go_word.proofs.WordLaws.{is_matched-word}
use Rattle.go_core.specs.declared.act.Act.{Act}
use Rattle.go_core.specs.declared.act.Act.TheVariants.{LoadArchived, LoadDurable, LoadTentative}
use Rattle.go_core.specs.declared.act.Event.{Event}
use Rattle.go_core.specs.declared.act.Out.{Out}
use Rattle.go_core.specs.declared.act.Out.TheVariants.{Number, Word, Refused}
use Rattle.go_core.specs.declared.party.Party.{Party}
use Rattle.go_core.specs.Frame.{slot, archived_in, durable_in, released}
use Rattle.go_core.specs.Acts.{CanReadAhead}
use Rattle.go_core.specs.Rule.{IsSound, Tells}
use Rattle.go_core.specs.Machine.{Machine, IsTied, views_of, party_at, Does, Row, claims}
use Rattle.go_core.specs.History.{Run, all_claims, ReadsFront, IsFrontRead, IsAssured, IsCopied, AreSure, Copy}
use Rattle.go_core.proofs.Lookups.{lookup-some, lookup-longer}
use Rattle.go_core.proofs.Loads.{in_window, matched-decode}
use Rattle.go_core.proofs.Flags.{sure_tells}
use Rattle.go_core.proofs.Parted.{party_there}
use Rattle.go_core.proofs.Rows.{row_keeps}
use Rattle.go_core.proofs.Ready.{seated_or_absent}
use Rattle.go_core.proofs.Runs.{same_word, word-refused, row_frame, row_released}

-- the answer of a front that was read is the front, which is never below what is released
front_answer : (front : ℕ) (after m : Machine) (condition : Type 0) (n : ℕ) (now : Machine) → released m.words ≤ front
    → Does condition (Number front) after m (Number n) now → released m.words ≤ n
front_answer front after m condition n now from does =
    ⊎_elim (λ yes'. let same : n ≡ front = same_number n front yes'.1 in omega arith) (λ not. absurd (refused n not.1)) does
  where
    same_number : (a b : ℕ) → Number a ≡ Number b → a ≡ b
    same_number a b e = cc

    refused : (a : ℕ) → Number a ≡ Refused → ⊥
    refused a e = cc

front_read : (m : Machine) (j : ℕ) (act : Act) (n : ℕ) (now : Machine) → ReadsFront act → Row m j act (Number n) now → released m.words ≤ n
front_read m j act n now reads row =
    ⊎_elim
    (λ (is : act ≡ LoadArchived).
    let row' : Row m j LoadArchived (Number n) now = subst (λ a. Row m j a (Number n) now) is row in
    front_answer (archived_in m.words) _ m _ n now (omega arith) row')
    (λ (is : act ≡ LoadDurable).
    let row' : Row m j LoadDurable (Number n) now = subst (λ a. Row m j a (Number n) now) is row in
    front_answer (durable_in m.words) _ m _ n now (omega arith) row') reads

-- a front that is read later is at or above what is released now
front_later : (m : Machine) (es : List Event) (outs : List Out) (now : Machine) (log : List Edge) (k n : ℕ) → Run m es outs now → IsTied m log
    → IsFrontRead es outs k n → released m.words ≤ n
front_later m es [] now log k n run tied read = absurd (some-ne-none (Number n) (sym read.answer))
front_later m [] (out ∷ outs) now log k n run tied read = absurd run
front_later m (e ∷ es) (out ∷ outs) now log zero n run tied read =
    let next = run.0 in
    let event : e ≡ read.event = some-injective e read.event read.there in
    let answer : out ≡ Number n = some-injective out (Number n) read.answer in
    let row : Row m e.party e.act (Number n) next = subst (λ o. Row m e.party e.act o next) answer run.1 in
    front_read m e.party e.act n next (subst (λ z. ReadsFront z.act) (sym event) read.reads) row
front_later m (e ∷ es) (out ∷ outs) now log (suc k) n run tied read =
    let next = run.0 in
    let kept = row_keeps m e.party e.act out next log run.1 tied in
    let first = row_released m e.party e.act out next log run.1 tied in
    let rest = front_later next es outs now (log ++ claims e.act out) k n run.2 kept
    (record { event = read.event; there = read.there; reads = read.reads; answer = read.answer }) in
    omega arith

-- what a word that was read ahead tells, where nothing up to its position was released
row_copied : (m : Machine) (i p x : ℕ) (now : Machine) (log : List Edge) → Row m i (LoadTentative p) (Word x) now → IsTied m log → released m.words ≤ p
    → (is_matched m.frame.slots p x ≡ true → get_elem? log p ≡ some (decode x)) × (is_matched m.frame.slots p x ≡ false → (party_at m i).view.seen ≤ p)
row_copied m i p x now log row tied from =
    let t = tied.tied in
    let r = t.ringed in
    let v = (party_at m i).view in
    let views = views_of m.parties in
    ⊎_elim
    (λ yes'.
    let is : x ≡ slot m.frame m.words p = same_word x (slot m.frame m.words p) yes'.1 in
    let can : CanReadAhead m.frame.slots v p = yes'.0.1 in
    let s = t.seated i v (party_there m i yes'.0.0) in
    let archived = s.knows.archived_to in
    let durable = s.knows.durable_to in
    let to = can.to in
    let inside : p < released m.words + m.frame.slots = omega arith in
    let archived_from = r.archived.from in
    let durable_from = r.durable.from in (
      (λ matched.
          let found = in_window m.frame log m.words views p r from inside (ap (is_matched m.frame.slots p) (sym is) ∙ matched) in
          let same : decode x ≡ found.edge = ap decode {x = x} is ∙ matched-decode m.frame log m.words views p t (omega arith) found in
          found.there ∙ ap some (sym same)),
      (λ unmatched.
          ⊎_elim
          (λ (seen : p < v.seen).
          let written = s.sees.written p seen in
          let found = lookup-some log p written.within in
          let holds : slot m.frame m.words p ≡ word m.frame.slots p found.0 = r.holds p found.0 from inside written found.1 in
          let matched : is_matched m.frame.slots p x ≡ true = ap (is_matched m.frame.slots p) (is ∙ holds)
          ∙ is_matched-word m.frame.slots p found.0 (t.storable p found.0 (omega arith) found.1) in
          absurd (both_ways (is_matched m.frame.slots p x) unmatched matched))
          (λ (unseen : v.seen ≤ p). unseen) (cases_lt p v.seen)),
    ))
    (λ not. absurd (word-refused x not.1)) row

-- over a run
pub run_copied : (m : Machine) (es : List Event) (outs : List Out) (now : Machine) (log : List Edge) → Run m es outs now → IsTied m log → (k : ℕ) (c : Copy)
    → IsAssured es outs k c → IsCopied m es outs (log ++ all_claims es outs) k c
run_copied m es [] now log run tied k c read = absurd (some-ne-none (Word c.word) (sym read.answer))
run_copied m [] (out ∷ outs) now log run tied k c read = absurd run
run_copied m (e ∷ es) (out ∷ outs) now log run tied zero c read =
    let next = run.0 in
    let event : e ≡ record { party = c.party; act = LoadTentative c.at } = some-injective e _ read.event in
    let answer : out ≡ Word c.word = some-injective out (Word c.word) read.answer in
    let row : Row m c.party (LoadTentative c.at) (Word c.word) next = subst (λ o. Row m c.party (LoadTentative c.at) o next) answer
    (subst (λ (z : Event). Row m z.party z.act out next) event run.1) in
    let front = read.front in
    let from : released m.words ≤ front = front_later m (e ∷ es) (out ∷ outs) now log read.later front run tied read.read in
    let up_to = read.up_to in
    let told = row_copied m c.party c.at c.word next log row tied (omega arith) in
    record {
      matched = λ matched. lookup-longer log (claims e.act out ++ all_claims es outs) c.at (decode c.word) (told.0 matched);
      unmatched = λ unmatched. record { machine = m; run = refl; unseen = told.1 unmatched };
    }
run_copied m (e ∷ es) (out ∷ outs) now log run tied (suc k) c read =
    let next = run.0 in
    let kept = row_keeps m e.party e.act out next log run.1 tied in
    let frame = row_frame m e.party e.act out next run.1 in
    let rest = run_copied next es outs now (log ++ claims e.act out) run.2 kept k c (later_read e es out outs k c read) in
    record {
      matched = λ matched. subst (λ l. get_elem? l c.at ≡ some (decode c.word)) (append_assoc log (claims e.act out) (all_claims es outs))
          (rest.matched (subst (λ f. is_matched f.slots c.at c.word ≡ true) (sym frame) matched));
      unmatched = λ unmatched. let u = rest.unmatched (subst (λ f. is_matched f.slots c.at c.word ≡ false) (sym frame) unmatched) in
          record { machine = u.machine; run = (next, run.1, u.run); unseen = u.unseen };
    }
  where
    back : (e : Event) (es : List Event) (out : Out) (outs : List Out) (k later n : ℕ) → k < later → IsFrontRead (e ∷ es) (out ∷ outs) (suc later) n
        → IsFrontRead es outs later n
    back e es out outs k later n after read = record { event = read.event; there = read.there; reads = read.reads; answer = read.answer }

    by_later : (e : Event) (es : List Event) (out : Out) (outs : List Out) (k later : ℕ) (c : Copy) (read : IsAssured (e ∷ es) (out ∷ outs) (suc k) c)
        → read.later ≡ later → IsAssured es outs k c
    by_later e es out outs k zero c read is = let after = read.after in absurd (omega arith)
    by_later e es out outs k (suc later) c read is =
        record {
          event = read.event;
          answer = read.answer;
          later = later;
          after = let after = read.after in omega arith;
          front = read.front;
          read = back e es out outs k later read.front (let after = read.after in omega arith)
              (subst (λ l. IsFrontRead (e ∷ es) (out ∷ outs) l read.front) is read.read);
          up_to = read.up_to;
        }

    later_read : (e : Event) (es : List Event) (out : Out) (outs : List Out) (k : ℕ) (c : Copy) → IsAssured (e ∷ es) (out ∷ outs) (suc k) c
        → IsAssured es outs k c
    later_read e es out outs k c read = by_later e es out outs k read.later c read refl

-- the words of a copy that are sure tell what they told
pub tied_sure : (m : Machine) (log : List Edge) (i : ℕ) → IsTied m log → AreSure m log i
tied_sure m log i tied =
    let v = (party_at m i).view in
    let views = views_of m.parties in
    ⊎_elim
    (λ there.
    All-weaker (IsSound m.frame log m.words views v.marked) (λ l. l.sure ≡ true → Tells m.frame log views v.marked l)
    (λ l sound sure. sure_tells m.frame log m.words views v.marked l sure sound) v.loads (tied.tied.seated i v there).reads)
    (λ none.
    subst (λ (p : Party). All (λ l. l.sure ≡ true → Tells m.frame log views p.view.marked l) p.view.loads) (sym none)
    (All-nil (λ l. l.sure ≡ true → Tells m.frame log views 0 l)))
    (seated_or_absent m i)
