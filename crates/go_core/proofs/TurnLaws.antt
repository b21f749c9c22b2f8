-- Steps on turn words: a turn word counts the parties that have the turn.
use Rattle.std.proofs.Common.{◌≡◌, ℕ, ◌+◌, ◌*◌, ◌<◌, ◌≤◌, ◌≢◌, Bool, true, false, List, [], ◌∷◌, ◌++◌, length, set, refl, ap, arith}
use Rattle.std.specs.Prelude.{All, count_by}
use Rattle.std.proofs.lemmas.List.Sums.{sum_by_push, sum_by-le}
use Rattle.std.proofs.lemmas.List.Elements.{All-weaker}
use mathlib.Core.Option.{some}
use lib.ListN.{get_elem?}
use Rattle.go_word.specs.declared.edge.Edge.{Edge}
use Rattle.go_core.specs.declared.view.View.{View}
use Rattle.go_core.specs.Frame.{Frame, archived_in, durable_in}
use Rattle.go_core.specs.View.{unmoved}
use Rattle.go_core.specs.Rule.{TiedBy}
use Rattle.go_core.specs.Parts.{IsTurn}
use Rattle.go_core.proofs.Totals.{bit_of, total-set, term-le, terms-le}
use Rattle.go_core.proofs.Onward.{works_still}
use Rattle.go_core.proofs.Moved.{word_other, word_moved}
use Rattle.go_core.proofs.Fronts.{front_keeps}

module _ {S : Type 0} (g : S → Bool) where
  -- a count after one party has changed
  pub count-set : (parties : List S) (i : ℕ) (s s' : S) → get_elem? parties i ≡ some s
      → count_by g (set parties i s') + bit_of (g s) ≡ count_by g parties + bit_of (g s')
  count-set parties i s s' there = total-set (λ z. bit_of (g z)) parties i s s' there

  -- and with one party more
  pub count-push : (parties : List S) (s : S) → count_by g (parties ++ s ∷ []) ≡ count_by g parties + bit_of (g s)
  count-push parties s = sum_by_push (λ z. bit_of (g z)) parties s

  -- each party's part of it
  pub count-has : (parties : List S) (i : ℕ) (s : S) → get_elem? parties i ≡ some s → bit_of (g s) ≤ count_by g parties
  count-has parties i s there = term-le (λ z. bit_of (g z)) parties i s there

  -- of two parties at most one counts, where the count is at most one
  pub not_two : (parties : List S) (i j : ℕ) (s t : S) → j ≢ i → get_elem? parties i ≡ some s → get_elem? parties j ≡ some t → count_by g parties ≤ 1
      → g s ≡ true → g t ≡ true → ⊥
  not_two parties i j s t ne there other few mine theirs =
      let two : bit_of (g s) + bit_of (g t) ≤ count_by g parties = terms-le (λ z. bit_of (g z)) parties i j s t ne there other in
      let first : bit_of (g s) ≡ 1 = ap bit_of mine in
      let second : bit_of (g t) ≡ 1 = ap bit_of theirs in
      omega arith

  -- nobody counts
  pub count-none : (parties : List S) → All (λ s. g s ≡ false) parties → count_by g parties ≡ 0
  count-none parties none =
      let bound : count_by g parties ≤ length parties * 0 = sum_by-le (λ z. bit_of (g z)) 0 parties
      (All-weaker (λ s. g s ≡ false) (λ s. bit_of (g s) ≤ 0) (λ s is. small (g s) is) parties none) in
      omega arith
    where
      small : (b : Bool) → b ≡ false → bit_of b ≤ 0
      small b is = let e : bit_of b ≡ 0 = ap bit_of is in omega arith

module _ {S : Type 0} (has : S → Bool) where
  -- a turn that nobody had is taken
  pub turn_taken : (parties : List S) (i : ℕ) (s s' : S) → get_elem? parties i ≡ some s → has s' ≡ true → IsTurn has 0 parties → IsTurn has 1 (set parties i s')
  turn_taken parties i s s' there now turn =
      let old = turn.counts in
      let change = count-set has parties i s s' there in
      let small = count-has has parties i s there in
      let one : bit_of (has s') ≡ 1 = ap bit_of now in
      record { counts = omega arith; one = omega arith }

  -- a turn is given back by the party that has it
  pub turn_given : (parties : List S) (i : ℕ) (s s' : S) (n : ℕ) → get_elem? parties i ≡ some s → has s ≡ true → has s' ≡ false → IsTurn has n parties
      → IsTurn has 0 (set parties i s')
  turn_given parties i s s' n there before now turn =
      let old = turn.counts in
      let few = turn.one in
      let change = count-set has parties i s s' there in
      let one : bit_of (has s) ≡ 1 = ap bit_of before in
      let none : bit_of (has s') ≡ 0 = ap bit_of now in
      record { counts = omega arith; one = omega arith }

  -- a party changes otherwise
  pub turn_same : (parties : List S) (i : ℕ) (s s' : S) (n : ℕ) → get_elem? parties i ≡ some s → has s' ≡ has s → IsTurn has n parties
      → IsTurn has n (set parties i s')
  turn_same parties i s s' n there same turn =
      let old = turn.counts in
      let change = count-set has parties i s s' there in
      let as_much : bit_of (has s') ≡ bit_of (has s) = ap bit_of same in
      record { counts = omega arith; one = turn.one }

  -- a party comes that has no turn
  pub turn_more : (parties : List S) (s : S) (n : ℕ) → has s ≡ false → IsTurn has n parties → IsTurn has n (parties ++ s ∷ [])
  turn_more parties s n none turn =
      let old = turn.counts in
      let change = count-push has parties s in
      let nothing : bit_of (has s) ≡ 0 = ap bit_of none in
      record { counts = omega arith; one = turn.one }

  -- where a party has the turn, the word says so
  pub turn_had : (parties : List S) (i : ℕ) (s : S) (n : ℕ) → get_elem? parties i ≡ some s → has s ≡ true → IsTurn has n parties → 0 < n
  turn_had parties i s n there mine turn =
      let old = turn.counts in
      let small = count-has has parties i s there in
      let one : bit_of (has s) ≡ 1 = ap bit_of mine in
      omega arith

  -- and where the word says that nobody has it, no party does
  pub turn_free : (parties : List S) (i : ℕ) (s : S) → get_elem? parties i ≡ some s → IsTurn has 0 parties → has s ≡ false
  turn_free parties i s there turn = free (has s) (let old = turn.counts in let small = count-has has parties i s there in omega arith)
    where
      free : (b : Bool) → bit_of b ≡ 0 → b ≡ false
      free true none = absurd (omega arith)
      free false none = refl

-- a party takes or gives back a turn: no clause on words and views speaks of the word, and its view stays as it is
pub turn_stored : (f : Frame) (log : List Edge) (words : List ℕ) (views : List View) (i : ℕ) (v : View) (k n : ℕ) → get_elem? views i ≡ some v → v.live ≡ true
    → 4 ≤ k
    → k < f.base → TiedBy f log words views → TiedBy f log (set words k n) (set views i (unmoved v))
turn_stored f log words views i v k n there live from to tied =
    let s = tied.seated i v there in
    let words' = set words k n in
    let archived : archived_in words' ≡ archived_in words = word_other words k 1 n (λ e. omega arith) in
    let durable : durable_in words' ≡ durable_in words = word_other words k 2 n (λ e. omega arith) in
    let moved = word_moved f log words views k n (omega arith) to (omega arith) (omega arith) (λ p below. tied.ringed.archived.written p (omega arith))
    (λ p below. tied.ringed.durable.written p (omega arith))
    in
    front_keeps f log words views i v words'
    (record {
      archived = v.archived;
      durable = v.durable;
      knows = let old = s.knows in
          let one = old.archived_to in
          let two = old.durable_to in
          record { head_to = old.head_to; archived_to = omega arith; durable_to = omega arith };
      works = works_still words' v (λ _. archived) (λ _. durable) s.works;
    })
    there live moved (word_other words k 3 n (λ e. omega arith))
    (λ j u ne at_j. works_still words' u (λ _. archived) (λ _. durable) (tied.seated j u at_j).works) tied
