-- The pins that parties hold stand in the shard, whichever party changes what.
use Rattle.std.proofs.Common.{◌≡◌, ℕ, ◌+◌, ◌≤◌, ◌≢◌, Bool, true, false, List, [], ◌∷◌, ◌++◌, get_or, set, sym, refl, ap, ◌∙◌, ⊎_elim, arith, subst}
use Rattle.std.specs.Prelude.{All, Contains, count_by, filter, find, not, Some, ◌||◌}
use Rattle.std.proofs.lemmas.Bool.{cases_Bool, both_ways, false≢true, not-true, or_left, or_right, or_cases, or_parts}
use Rattle.std.proofs.lemmas.List.Elements.{All-nil, All-append, All-push, All-set, All-contains, Contains-get_or, filter_passes}
use mathlib.Core.Option.{some}
use lib.ListN.{get_elem?}
use Rattle.go_word.specs.declared.pin.Pin.{Pin}
use Rattle.go_core.specs.declared.part.PartState.{PartState}
use Rattle.go_word.specs.Pins.{is_named, has_name}
use Rattle.go_core.specs.Pins.{owns_name, is_own_or_new}
use Rattle.go_core.specs.Parts.{KeepsPins, IsPinnedBy, ArePinned}
use Rattle.go_core.proofs.Lookups.{lookup-get_or, lookup-set_other, lookup-same}
use Rattle.go_core.proofs.PinLaws.{named_in, has-in, has-pin, has-append}
use Rattle.go_core.proofs.Totals.{bit_of}
use Rattle.go_core.proofs.Claims.{All-lookup}
use Rattle.go_core.proofs.TurnLaws.{count-set, count-push, not_two, count-none}

-- a condition that implies another counts no more
bit_le : (a b : Bool) → (a ≡ true → b ≡ true) → bit_of a ≤ bit_of b
bit_le true b implies = let e : bit_of b ≡ 1 = ap bit_of (implies refl) in omega arith
bit_le false b implies = omega arith

-- and one that is the sum of two counts at most as much as both
bit_sum : (a b c : Bool) → (a ≡ true → (b || c) ≡ true) → bit_of a ≤ bit_of b + bit_of c
bit_sum true true c implies = omega arith
bit_sum true false c implies = let e : bit_of c ≡ 1 = ap bit_of (implies refl) in omega arith
bit_sum false b c implies = omega arith

-- the names that a filter leaves pass it
pub named_passes : (test : Pin → Bool) (all : List Pin) (id : ℕ) → has_name id (filter test all) ≡ true → (p : Pin) × (test p ≡ true) × (p.id ≡ id)
named_passes test all id is = let found = has-pin id (filter test all) is in
    (found.0, All-contains (λ x. test x ≡ true) (filter test all) found.0 (filter_passes test all) found.1, found.2)

-- two places of a list, with what stands at them
pub record AreTwo {S : Type 0} (parties : List S) (i j : ℕ) (s o : S) : Type 0 where
  pub ne : j ≢ i
  pub there : get_elem? parties i ≡ some s
  pub other : get_elem? parties j ≡ some o

module _ {S : Type 0} (pins put : S → List Pin) (has : S → Bool) where
  -- one party has other pins, and no name more
  pub pinned_set : (held : List Pin) (parties : List S) (i : ℕ) (s s' : S) → get_elem? parties i ≡ some s → IsPinnedBy pins put has held s'
      → ((id : ℕ) → owns_name id (pins s') (put s') ≡ true → owns_name id (pins s) (put s) ≡ true) → ArePinned pins put has held parties
      → ArePinned pins put has held (set parties i s')
  pinned_set held parties i s s' there one fewer are =
      record {
        each = All-set (IsPinnedBy pins put has held) parties i s' one are.each;
        apart = λ id.
            (let change = count-set (λ x. owns_name id (pins x) (put x)) parties i s s' there in
            let few = are.apart id in
            let less = bit_le (owns_name id (pins s') (put s')) (owns_name id (pins s) (put s)) (fewer id) in
            omega arith);
      }

  -- a party comes that holds none
  pub pinned_more : (held : List Pin) (parties : List S) (s : S) → pins s ≡ [] → put s ≡ [] → ArePinned pins put has held parties
      → ArePinned pins put has held (parties ++ s ∷ [])
  pinned_more held parties s none none_put are =
      record {
        each = All-push (IsPinnedBy pins put has held) parties s are.each
            (record { pinned = λ free. subst (All (Contains held)) (sym none) (All-nil (Contains held)); none_put = λ free. none_put });
        apart = λ id.
            (let change = count-push (λ x. owns_name id (pins x) (put x)) parties s in
            let few = are.apart id in
            let no_name : owns_name id (pins s) (put s) ≡ false = ap (λ ps. has_name id ps || has_name id (put s)) none ∙ ap (λ ps. has_name id ps) none_put in
            let nothing : bit_of (owns_name id (pins s) (put s)) ≡ 0 = ap bit_of no_name in
            omega arith);
      }

  -- what two parties make that are joined, of which the other has no turn, and what is left of that
  pub record IsJoin (s o both gone : S) : Type 0 where
    pub free : has o ≡ false
    pub turn : has both ≡ has s
    pub all_pins : pins both ≡ pins s ++ pins o
    pub as_put : put both ≡ put s
    pub none : pins gone ≡ []
    pub none_put : put gone ≡ []

  -- another party is joined in
  pub pinned_joined : (held : List Pin) (parties : List S) (i j : ℕ) (s o both gone : S) → AreTwo parties i j s o → IsJoin s o both gone
      → ArePinned pins put has held parties → ArePinned pins put has held (set (set parties i both) j gone)
  pinned_joined held parties i j s o both gone two join are =
      let mine = All-lookup (IsPinnedBy pins put has held) parties i s are.each two.there in
      let theirs = All-lookup (IsPinnedBy pins put has held) parties j o are.each two.other in
      record {
        each = All-set (IsPinnedBy pins put has held) (set parties i both) j gone
            (record { pinned = λ _. subst (All (Contains held)) (sym join.none) (All-nil (Contains held)); none_put = λ _. join.none_put })
            (All-set (IsPinnedBy pins put has held) parties i both
            (record {
              pinned = λ not'. subst (All (Contains held)) (sym join.all_pins)
                  (All-append (Contains held) (pins s) (pins o) (mine.pinned (sym join.turn ∙ not')) (theirs.pinned join.free));
              none_put = λ not'. join.as_put ∙ mine.none_put (sym join.turn ∙ not');
            }) are.each);
        apart = λ id.
            (let other' : get_elem? (set parties i both) j ≡ some o = lookup-set_other parties i j both two.ne ∙ two.other in
            let first = count-set (λ x. owns_name id (pins x) (put x)) parties i s both two.there in
            let second = count-set (λ x. owns_name id (pins x) (put x)) (set parties i both) j o gone other' in
            let few = are.apart id in
            let no_name : owns_name id (pins gone) (put gone) ≡ false = ap (λ ps. has_name id ps || has_name id (put gone)) join.none
            ∙ ap (λ ps. has_name id ps) join.none_put in
            let nothing : bit_of (owns_name id (pins gone) (put gone)) ≡ 0 = ap bit_of no_name in
            let sum = bit_sum (owns_name id (pins both) (put both)) (owns_name id (pins s) (put s)) (owns_name id (pins o) (put o))
            (λ is. joined_name id s o both join.all_pins join.as_put is) in
            omega arith);
      }
    where
      joined_name : (id : ℕ) (s o both : S) → pins both ≡ pins s ++ pins o → put both ≡ put s → owns_name id (pins both) (put both) ≡ true
          → (owns_name id (pins s) (put s) || owns_name id (pins o) (put o)) ≡ true
      joined_name id s o both all_pins as_put is =
          ⊎_elim
          (λ in_pins.
          ⊎_elim (λ mine. or_left (owns_name id (pins s) (put s)) (owns_name id (pins o) (put o)) (or_left (has_name id (pins s)) (has_name id (put s)) mine))
          (λ theirs. or_right (owns_name id (pins s) (put s)) (owns_name id (pins o) (put o)) (or_left (has_name id (pins o)) (has_name id (put o)) theirs))
          (or_cases (has_name id (pins s)) (has_name id (pins o)) (sym (has-append id (pins s) (pins o)) ∙ ap (has_name id) (sym all_pins) ∙ in_pins)))
          (λ in_put. or_left (owns_name id (pins s) (put s)) (owns_name id (pins o) (put o))
          (or_right (has_name id (pins s)) (has_name id (put s)) (ap (has_name id) (sym as_put) ∙ in_put)))
          (or_cases (has_name id (pins both)) (has_name id (put both)) is)

  -- a party has the turn, and the shard may be put in as another by what becomes of its pins
  pub record PutsIn (parties : List S) (i : ℕ) (s : S) (archived : ℕ) (old new : PartState) : Type 0 where
    pub there : get_elem? parties i ≡ some s
    pub mine : has s ≡ true
    pub few : count_by has parties ≤ 1
    pub keeps : KeepsPins archived (λ id. owns_name id (pins s) (put s)) old new
    pub are : ArePinned pins put has old.pins parties

  module _ (parties : List S) (i : ℕ) (s : S) (archived : ℕ) (old new : PartState) (by : PutsIn parties i s archived old new) where
    -- another party has no turn
    pub no_turn : (k : ℕ) (t : S) → k ≢ i → get_elem? parties k ≡ some t → has t ≡ false
    no_turn k t ne other = ⊎_elim (λ theirs. absurd (not_two has parties i k s t ne by.there other by.few by.mine theirs)) (λ free. free) (cases_Bool (has t))

    -- and a name of its pins isn't that of the party with the turn
    not_mine : (k : ℕ) (t : S) (id : ℕ) → k ≢ i → get_elem? parties k ≡ some t → owns_name id (pins t) (put t) ≡ true → owns_name id (pins s) (put s) ≡ false
    not_mine k t id ne other theirs =
        ⊎_elim (λ (own : owns_name id (pins s) (put s) ≡ true). absurd
        (not_two (λ x. owns_name id (pins x) (put x)) parties i k s t ne by.there other (by.are.apart id) own theirs)) (λ free. free)
        (cases_Bool (owns_name id (pins s) (put s)))

    -- so what another party holds is still there
    pub still_held : All (IsPinnedBy pins put has new.pins) parties
    still_held k d within =
        let t = get_or parties k d in
        let other : get_elem? parties k ≡ some t = lookup-get_or parties k d within in
        record {
          pinned = λ free q e inside.
              (let pin = get_or (pins t) q e in
              let ne : k ≢ i = λ same. both_ways (has t) free (ap has (lookup-same parties i t s (sym (ap (get_elem? parties) same) ∙ other) by.there) ∙
              by.mine) in
              let held : Contains old.pins pin = (by.are.each k d within).pinned free q e inside in
              let named : has_name pin.id (pins t) ≡ true = has-in (pins t) pin (Contains-get_or (pins t) q e inside) in
              let not' : owns_name pin.id (pins s) (put s) ≡ false = not_mine k t pin.id ne other
              (or_left (has_name pin.id (pins t)) (has_name pin.id (put t)) named) in
              let stays : find (is_named pin.id) new.pins ≡ Some pin = All-contains
              (λ x. owns_name x.id (pins s) (put s) ≡ false → find (is_named x.id) new.pins ≡ Some x) old.pins pin by.keeps.others held not' in
              (named_in pin.id new.pins pin stays).0);
          none_put = (by.are.each k d within).none_put;
        }

    -- a new name was nobody's
    pub nobody : (id : ℕ) → owns_name id (pins s) (put s) ≡ false → has_name id old.pins ≡ false → count_by (λ x. owns_name id (pins x) (put x)) parties ≡ 0
    nobody id not' fresh =
        count-none (λ x. owns_name id (pins x) (put x)) parties
        (λ k d within.
        (let t = get_or parties k d in
        let other : get_elem? parties k ≡ some t = lookup-get_or parties k d within in
        ⊎_elim
        (λ (theirs : owns_name id (pins t) (put t) ≡ true).
        let ne : k ≢ i = λ same. both_ways (owns_name id (pins t) (put t))
        (ap (λ x. owns_name id (pins x) (put x)) (lookup-same parties i t s (sym (ap (get_elem? parties) same) ∙ other) by.there) ∙ not') theirs in
        let free : has t ≡ false = no_turn k t ne other in
        let one = by.are.each k d within in
        let named : has_name id (pins t) ≡ true =
        ⊎_elim (λ in_pins. in_pins) (λ in_put. absurd (false≢true (sym (ap (has_name id) (one.none_put free)) ∙ in_put)))
        (or_cases (has_name id (pins t)) (has_name id (put t)) theirs)
        in
        let found = has-pin id (pins t) named in
        let held : Contains old.pins found.0 = All-contains (Contains old.pins) (pins t) found.0 (one.pinned free) found.1 in
        let there' : has_name id old.pins ≡ true = ap (λ n. has_name n old.pins) (sym found.2) ∙ has-in old.pins found.0 held in
        absurd (both_ways (has_name id old.pins) fresh there'))
        (λ none. none) (cases_Bool (owns_name id (pins t) (put t)))))

    pub pinned_put : (s' : S) → has s' ≡ true → pins s' ≡ pins s → put s' ≡ filter (is_own_or_new (pins s) (put s) old.pins) new.pins
        → ArePinned pins put has new.pins (set parties i s')
    pinned_put s' turn same_pins is_put =
        let test : Pin → Bool = is_own_or_new (pins s) (put s) old.pins in
        record {
          each = All-set (IsPinnedBy pins put has new.pins) parties i s'
              (record { pinned = λ free. absurd (both_ways (has s') free turn); none_put = λ free. absurd (both_ways (has s') free turn) }) still_held;
          apart = λ id.
              (let change = count-set (λ x. owns_name id (pins x) (put x)) parties i s s' by.there in
              let before = by.are.apart id in
              ⊎_elim
              (λ (now : owns_name id (pins s') (put s') ≡ true).
              let one : bit_of (owns_name id (pins s') (put s')) ≡ 1 = ap bit_of now in
              ⊎_elim (λ (own : owns_name id (pins s) (put s) ≡ true). let was : bit_of (owns_name id (pins s) (put s)) ≡ 1 = ap bit_of own in omega arith)
              (λ (not' : owns_name id (pins s) (put s) ≡ false).
              let neither = or_parts (has_name id (pins s)) (has_name id (put s)) not' in
              let in_put : has_name id (put s') ≡ true =
              ⊎_elim (λ in_pins. absurd (both_ways (has_name id (pins s)) neither.0 (ap (has_name id) (sym same_pins) ∙ in_pins))) (λ in_put. in_put)
              (or_cases (has_name id (pins s')) (has_name id (put s')) now)
              in
              let found = named_passes test new.pins id (ap (has_name id) (sym is_put) ∙ in_put) in
              let passed : (owns_name id (pins s) (put s) || not (has_name id old.pins)) ≡ true = ap
              (λ n. owns_name n (pins s) (put s) || not (has_name n old.pins)) (sym found.2) ∙ found.1 in
              let fresh : has_name id old.pins ≡ false =
              ⊎_elim (λ own. absurd (both_ways (owns_name id (pins s) (put s)) not' own)) (λ new'. not-true (has_name id old.pins) new')
              (or_cases (owns_name id (pins s) (put s)) (not (has_name id old.pins)) passed)
              in
              let zero' = nobody id not' fresh in
              let was : bit_of (owns_name id (pins s) (put s)) ≡ 0 = ap bit_of not' in
              omega arith) (cases_Bool (owns_name id (pins s) (put s))))
              (λ (none : owns_name id (pins s') (put s') ≡ false). let nothing : bit_of (owns_name id (pins s') (put s')) ≡ 0 = ap bit_of none in omega arith)
              (cases_Bool (owns_name id (pins s') (put s'))));
        }
