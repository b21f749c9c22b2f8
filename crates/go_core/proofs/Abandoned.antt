-- A pending entry is given up once the flag was seen raised: its position is owed as before.
use Rattle.std.proofs.Common.{◌≡◌, ◌≢◌, ℕ, ◌+◌, ◌-◌, ◌<◌, true, List, [], ◌∷◌, ◌++◌, set, sym, refl, ap, ◌∙◌, ⊎_elim, arith}
use Rattle.std.specs.Prelude.{Contains}
use Rattle.std.proofs.lemmas.Bool.{cases_eq}
use Rattle.std.proofs.lemmas.List.Elements.{All-push, All-contains}
use mathlib.Core.Option.{some}
use lib.ListN.{get_elem?}
use Rattle.go_word.specs.declared.edge.Edge.{Edge}
use Rattle.go_core.specs.declared.entry.Entry.{Entry}
use Rattle.go_core.specs.declared.view.View.{View}
use Rattle.go_core.specs.Frame.{Frame, flag_in}
use Rattle.go_core.specs.View.{stands_at, count_at, unfilled, without, abandoning}
use Rattle.go_core.specs.Rule.{IsOf, TiedBy}
use Rattle.go_core.proofs.Totals.{bit_of}
use Rattle.go_core.proofs.Entries.{bit-here, bit-other, count_at-cons, count_at-append, count_at-without_here, count_at-without_other, count_at-Contains}
use Rattle.go_core.proofs.Entries.{All-without}
use Rattle.go_core.proofs.Moved.{view_keeps}
use Rattle.go_core.proofs.Loads.{still_live}

-- what is owed stays
pub abandoned_owes : (p : ℕ) (x : Entry) (v : View) → Contains v.pending x → unfilled p (abandoning x v) ≡ unfilled p v
abandoned_owes p x v in' =
    let more : count_at p (v.abandoned ++ x ∷ []) ≡ count_at p v.abandoned + count_at p (x ∷ []) = count_at-append p v.abandoned (x ∷ []) in
    let last : count_at p (x ∷ []) ≡ bit_of (stands_at p x) + count_at p [] = count_at-cons p x [] in
    let there : 0 < count_at x.at v.pending = count_at-Contains v.pending x in' in
    ⊎_elim
    (λ (here : p ≡ x.at).
    let one : bit_of (stands_at p x) ≡ 1 = bit-here p x (sym here) in
    let less : count_at p (abandoning x v).pending ≡ count_at p v.pending - 1 = ap (λ q. count_at p (without q v.pending)) (sym here)
    ∙ count_at-without_here p v.pending in
    let some' : count_at x.at v.pending ≡ count_at p v.pending = ap (λ q. count_at q v.pending) (sym here) in
    omega arith)
    (λ (other : p ≢ x.at).
    let none : bit_of (stands_at p x) ≡ 0 = bit-other p x (λ e. other (sym e)) in
    let same : count_at p (abandoning x v).pending ≡ count_at p v.pending = count_at-without_other p x.at v.pending other in
    omega arith) (cases_eq p x.at)

-- one pending entry is given up, where the flag is raised
pub abandon_keeps : (f : Frame) (log : List Edge) (words : List ℕ) (views : List View) (i : ℕ) (v : View) (x : Entry) → get_elem? views i ≡ some v
    → v.live ≡ true → Contains v.pending x → 0 < flag_in words → TiedBy f log words views
    → TiedBy f log words (set views i (abandoning x v))
abandon_keeps f log words views i v x there live in' raised tied =
    let s = tied.seated i v there in
    view_keeps f log words views i v (abandoning x v) there
    (record {
      unfilled = λ p. abandoned_owes p x v in';
      stands = λ p. let same = abandoned_owes p x v in' in omega arith;
      archives = refl;
      flushes = refl;
    }) (record { disk = refl; memory = refl })
    (record {
      ended = λ dead. still_live v _ live dead;
      takes = s.takes;
      sees = s.sees;
      knows = s.knows;
      works = s.works;
      owes = record {
        pending_of = All-without (IsOf log) x.at v.pending s.owes.pending_of;
        abandoned_of = All-push (IsOf log) v.abandoned x s.owes.abandoned_of (All-contains (IsOf log) v.pending x s.owes.pending_of in');
        flagged = λ some'. raised;
      };
      owns = s.owns;
      reads = s.reads;
    }) tied
