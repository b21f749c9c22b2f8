-- The pins of seats as one of them gives a shard back: those of its place are others then, and no other place's.
use Rattle.std.proofs.Common.{◌≡◌, ℕ, ◌≤◌, ◌≢◌, Bool, true, false, cond, List, [], ◌∷◌, ◌++◌, map, get_or, set, sym, refl, ap, ◌∙◌, ⊎_elim, arith, subst}
use Rattle.std.specs.Prelude.{All, Contains, count_by, filter, not, ◌||◌, ◌==◌}
use Rattle.std.proofs.lemmas.Bool.{cases_Bool, false≢true, not-true, or_cases}
use Rattle.std.proofs.lemmas.List.Elements.{All-filter, All-weaker, All-contains_itself}
use mathlib.Core.Option.{some}
use lib.ListN.{get_elem?}
use Rattle.go_word.specs.declared.pin.Pin.{Pin}
use Rattle.go_word.specs.Pins.{has_name}
use Rattle.go_core.specs.declared.part.PartState.{PartState}
use Rattle.go_core.specs.Pins.{owns_name, is_own_or_new}
use Rattle.go_core.specs.Parts.{KeepsPins, IsPinnedBy, ArePinned}
use Rattle.go_core.proofs.Totals.{bit_of}
use Rattle.go_core.proofs.Lookups.{lookup-get_or, lookup-set}
use Rattle.go_core.proofs.Claims.{All-lookup}
use Rattle.go_core.proofs.TurnLaws.{count-set}
use Rattle.go_core.proofs.Pinned.{PutsIn, named_passes, no_turn, still_held, nobody}
use Rattle.go_rule.specs.declared.view.PlacedPin.{PlacedPin}
use Rattle.go_rule.specs.Turns.{with_pins}
use Rattle.go_rule.proofs.Lists.{same_number, other_number, is_number}

-- whether a pin is of a place, and the pins of one
abbrev is_at : ℕ → PlacedPin → Bool
is_at place x = x.place == place

abbrev placed : ℕ → List Pin → List PlacedPin
placed place pins = map (λ (pin : Pin). record { place = place; pin = pin }) pins

abbrev pins_of : List PlacedPin → List Pin
pins_of xs = map (λ (x : PlacedPin). x.pin) xs

placed_here : (place : ℕ) (pins : List Pin) → pins_of (filter (is_at place) (placed place pins)) ≡ pins
placed_here place [] = refl
placed_here place (p ∷ ps) =
    ap (λ b. pins_of (cond b (record { place = place; pin = p } ∷ filter (is_at place) (placed place ps)) (filter (is_at place) (placed place ps))))
    (same_number place)
    ∙ ap (λ zs. p ∷ zs) (placed_here place ps)

placed_else : (place other : ℕ) (pins : List Pin) → other ≢ place → pins_of (filter (is_at other) (placed place pins)) ≡ []
placed_else place other [] ne = refl
placed_else place other (p ∷ ps) ne =
    ap (λ b. pins_of (cond b (record { place = place; pin = p } ∷ filter (is_at other) (placed place ps)) (filter (is_at other) (placed place ps))))
    (other_number place other (λ e. ne (sym e)))
    ∙ placed_else place other ps ne

-- the pins of the place are those that were written there
pub pins_here : (place : ℕ) (pins : List Pin) (xs : List PlacedPin) → pins_of (filter (is_at place) (with_pins place pins xs)) ≡ pins
pins_here place pins [] = placed_here place pins
pins_here place pins (x ∷ xs) =
    let left : List PlacedPin = filter (λ (z : PlacedPin). not (z.place == place)) xs in
    let first = λ (b : Bool). pins_of (filter (is_at place) (cond (not b) (x ∷ left) left ++ placed place pins)) in
    ⊎_elim (λ (here : is_at place x ≡ true). ap first here ∙ pins_here place pins xs)
    (λ (other : is_at place x ≡ false).
    ap first other
    ∙ ap (λ b. pins_of (cond b (x ∷ filter (is_at place) (left ++ placed place pins)) (filter (is_at place) (left ++ placed place pins)))) other
    ∙ pins_here place pins xs)
    (cases_Bool (is_at place x))

-- and those of another place stay
pub pins_else : (place other : ℕ) (pins : List Pin) (xs : List PlacedPin) → other ≢ place
    → pins_of (filter (is_at other) (with_pins place pins xs)) ≡ pins_of (filter (is_at other) xs)
pins_else place other pins [] ne = placed_else place other pins ne
pins_else place other pins (x ∷ xs) ne =
    let left : List PlacedPin = filter (λ (z : PlacedPin). not (z.place == place)) xs in
    let first = λ (b : Bool). pins_of (filter (is_at other) (cond (not b) (x ∷ left) left ++ placed place pins)) in
    let rest = pins_else place other pins xs ne in
    ⊎_elim
    (λ (here : is_at place x ≡ true).
    let not' : is_at other x ≡ false = other_number x.place other (λ e. ne (sym e ∙ is_number x.place place here)) in
    ap first here ∙ rest ∙ sym (ap (λ b. pins_of (cond b (x ∷ filter (is_at other) xs) (filter (is_at other) xs))) not'))
    (λ (away : is_at place x ≡ false).
    ap first away ∙ both x (is_at other x) (filter (is_at other) (left ++ placed place pins)) (filter (is_at other) xs) rest)
    (cases_Bool (is_at place x))
  where
    both : (x : PlacedPin) (b : Bool) (ys zs : List PlacedPin) → pins_of ys ≡ pins_of zs → pins_of (cond b (x ∷ ys) ys) ≡ pins_of (cond b (x ∷ zs) zs)
    both x true ys zs same = ap (λ ps. x.pin ∷ ps) same
    both x false ys zs same = same

module _ {S : Type 0} (pins : S → List Pin) (has : S → Bool) where
  -- the party that has the turn gives the shard back, and has the pins of it that were its own or nobody's
  pub pinned_given : (parties : List S) (i : ℕ) (s s' : S) (archived : ℕ) (old new : PartState) → get_elem? parties i ≡ some s → has s ≡ true
      → count_by has parties ≤ 1 → KeepsPins archived (λ id. owns_name id (pins s) []) old new
      → pins s' ≡ filter (is_own_or_new (pins s) [] old.pins) new.pins → ArePinned pins (λ x. []) (λ x. false) old.pins parties
      → ArePinned pins (λ x. []) (λ x. false) new.pins (set parties i s')
  pinned_given parties i s s' archived old new there mine few keeps is are =
      let test : Pin → Bool = is_own_or_new (pins s) [] old.pins in
      let by_turn : ArePinned pins (λ x. []) has old.pins parties = record {
        each = All-weaker (IsPinnedBy pins (λ x. []) (λ x. false) old.pins) (IsPinnedBy pins (λ x. []) has old.pins)
            (λ x one. record { pinned = λ free. one.pinned refl; none_put = λ free. refl }) parties are.each;
        apart = are.apart;
      } in
      let puts : PutsIn pins (λ x. []) has parties i s archived old new = record { there = there; mine = mine; few = few; keeps = keeps; are = by_turn } in
      record {
        each = λ k z within.
            (let u = get_or (set parties i s') k z in
            ⊎_elim
            (λ here.
            subst (IsPinnedBy pins (λ x. []) (λ x. false) new.pins) here.1
            (record {
              pinned = λ free. subst (All (Contains new.pins)) (sym is) (All-filter test (Contains new.pins) new.pins (All-contains_itself new.pins));
              none_put = λ free. refl;
            }))
            (λ other.
            let free = no_turn pins (λ x. []) has parties i s archived old new puts k u other.0 other.1 in
            let held = still_held pins (λ x. []) has parties i s archived old new puts in
            record {
              pinned = λ _. (All-lookup (IsPinnedBy pins (λ x. []) has new.pins) parties k u held other.1).pinned free;
              none_put = λ _. refl;
            })
            (lookup-set parties i k s' u (lookup-get_or (set parties i s') k z within)));
        apart = λ id.
            (let owns : S → Bool = λ x. owns_name id (pins x) [] in
            let change = count-set owns parties i s s' there in
            let before : count_by owns parties ≤ 1 = are.apart id in
            ⊎_elim
            (λ (now : owns s' ≡ true).
            let one : bit_of (owns s') ≡ 1 = ap bit_of now in
            ⊎_elim (λ (own : owns s ≡ true). let was : bit_of (owns s) ≡ 1 = ap bit_of own in omega arith)
            (λ (not' : owns s ≡ false).
            let named : has_name id (pins s') ≡ true =
            ⊎_elim (λ in_pins. in_pins) (λ in_none. absurd (false≢true in_none)) (or_cases (has_name id (pins s')) false now)
            in
            let found = named_passes test new.pins id (ap (has_name id) (sym is) ∙ named) in
            let passed : (owns_name id (pins s) [] || not (has_name id old.pins)) ≡ true = ap
            (λ n. owns_name n (pins s) [] || not (has_name n old.pins)) (sym found.2) ∙ found.1 in
            let fresh : has_name id old.pins ≡ false =
            ⊎_elim (λ own. absurd (false≢true (sym not' ∙ own))) (λ new'. not-true (has_name id old.pins) new')
            (or_cases (owns_name id (pins s) []) (not (has_name id old.pins)) passed)
            in
            let none = nobody pins (λ x. []) has parties i s archived old new puts id not' fresh in
            let was : bit_of (owns s) ≡ 0 = ap bit_of not' in
            omega arith) (cases_Bool (owns s)))
            (λ (none : owns s' ≡ false). let nothing : bit_of (owns s') ≡ 0 = ap bit_of none in omega arith)
            (cases_Bool (owns s')));
      }
