-- A store of the flag, and what a word that was read ahead tells once it is sure.
use Rattle.std.proofs.Common.{◌≡◌, ℕ, ◌<◌, ◌≤◌, Bool, true, List, set, sym, refl, ap, ◌∙◌, ⊎_elim, arith}
use Rattle.std.specs.Prelude.{count_by, ◌==◌}
use Rattle.std.proofs.lemmas.Bool.{both_ways, or_right}
use mathlib.Core.Option.{some}
use lib.ListN.{get_elem?}
use Rattle.go_word.specs.declared.edge.Edge.{Edge}
use Rattle.go_core.specs.declared.entry.Load.{Load}
use Rattle.go_core.specs.declared.view.View.{View}
use Rattle.go_core.specs.Frame.{Frame, archived_in, durable_in, flag_in}
use Rattle.go_core.specs.View.{raising}
use Rattle.go_core.specs.Acts.{IsCause}
use Rattle.go_core.specs.Rule.{Tells, IsSound, TiedBy}
use Rattle.go_core.proofs.Lookups.{lookup-set_here, lookup-within}
use Rattle.go_core.proofs.Totals.{bit_of, term-le}
use Rattle.go_core.proofs.Onward.{seated_onward, works_still}
use Rattle.go_core.proofs.Moved.{four_there, word_other, word_here, word_moved, word_keeps}
use Rattle.go_core.proofs.Loads.{still_live}

-- a sure load tells what it told for good
pub sure_tells : (f : Frame) (log : List Edge) (words : List ℕ) (views : List View) (marked : ℕ) (l : Load) → l.sure ≡ true
    → IsSound f log words views marked l → Tells f log views marked l
sure_tells f log words views marked l sure sound = ⊎_elim (λ late. absurd (both_ways l.sure late.0 sure)) (λ tells. tells) sound

-- a cause that one view has raised counts
raised_counts : (g : View → Bool) (views : List View) (i : ℕ) (v w : View) → get_elem? views i ≡ some v → g w ≡ true → 0 < count_by g (set views i w)
raised_counts g views i v w there raised =
    let one : bit_of (g w) ≡ 1 = ap bit_of raised in
    let term : bit_of (g w) ≤ count_by g (set views i w) = term-le (λ z. bit_of (g z)) (set views i w) i w
    (lookup-set_here views i w (lookup-within views i v there)) in
    omega arith

-- a store of the flag
pub flag_stored : (f : Frame) (log : List Edge) (words : List ℕ) (views : List View) (i : ℕ) (v : View) (why : ℕ) → get_elem? views i ≡ some v → v.live ≡ true
    → IsCause why
    → TiedBy f log words views → TiedBy f log (set words 3 why) (set views i (raising why v))
flag_stored f log words views i v why there live cause tied =
    let w = raising why v in
    let words' = set words 3 why in
    let long = four_there f log words views tied in
    let base = tied.ringed.shape.four_words in
    let s0 = tied.seated i v there in
    let range : (0 < why) × (why ≤ 2) = ⊎_elim (λ (one : why ≡ 1). (omega arith, omega arith)) (λ (two : why ≡ 2). (omega arith, omega arith)) cause in
    let archived : archived_in words' ≡ archived_in words = word_other words 3 1 why (λ e. omega arith) in
    let durable : durable_in words' ≡ durable_in words = word_other words 3 2 why (λ e. omega arith) in
    let flag : flag_in words' ≡ why = word_here words 3 why (omega arith) in
    let moved = word_moved f log words views 3 why (omega arith) (omega arith) (omega arith) (omega arith)
    (λ p below. tied.ringed.archived.written p (omega arith))
    (λ p below. tied.ringed.durable.written p (omega arith))
    in
    word_keeps f log words views i v w words' there (record { unfilled = λ p. refl; stands = λ p. refl; archives = refl; flushes = refl }) moved
    (record {
      raised = λ raised. let large = range.0 in omega arith;
      cause = record {
        known = let small = range.1 in omega arith;
        none_disk = λ none. let large = range.0 in absurd (omega arith);
        none_memory = λ none. let large = range.0 in absurd (omega arith);
        disk = λ is. raised_counts (λ u. u.disk_raised) views i v w there (or_right v.disk_raised (why == 1) (ap (λ n. n == 1) (sym flag ∙ is)));
        memory = λ is. raised_counts (λ u. u.memory_raised) views i v w there (or_right v.memory_raised (why == 2) (ap (λ n. n == 2) (sym flag ∙ is)));
      };
    })
    (λ on.
    let s = seated_onward f on v (works_still words' v (λ _. archived) (λ _. durable) s0.works) s0 in
    record {
      ended = λ dead. still_live v _ live dead;
      takes = s.takes;
      sees = s.sees;
      knows = s.knows;
      works = s.works;
      owes = s.owes;
      owns = s.owns;
      reads = s.reads;
    })
    (λ j u ne at_j. works_still words' u (λ _. archived) (λ _. durable) (tied.seated j u at_j).works) tied
