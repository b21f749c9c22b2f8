-- What reading item by item comes to: the entries of all items, or the first fault.
use Rattle.std.proofs.Common.{◌≡◌, ◌⊎◌, inl, inr, ℕ, ◌+◌, ◌<◌, List, [], ◌∷◌, ◌++◌, Ok, Err, Result, Some, None, refl, ap, ◌∙◌, arith, zero, suc, subst}
use Rattle.std.specs.Prelude.{Option, slice_get}
use Rattle.go_text.specs.Steps.{◌>>=◌}
use Rattle.go_text.specs.declared.faults.FaultKind.{FaultKind}
use Rattle.go_word.specs.declared.edge.Edge.{Edge}
use Rattle.go_loader.specs.declared.fault.LoadFault.{LoadFault}
use Rattle.go_loader.specs.declared.fault.LoadFault.TheVariants.{Line, Memory}
use Rattle.go_loader.specs.Reading.{Reader, with_found, at_item, entries_from}
use Rattle.go_loader.specs.Laws.{found_in, IsRight, AreEntriesOf, HasFirstFault}

-- what a reading of an item and of the others comes to
abbrev pub item_and_others : ℕ → Result (Option Edge) FaultKind → Result (List Edge) LoadFault → Result (List Edge) LoadFault
item_and_others n read others = at_item n read >>= λ found. others >>= λ edges. Ok (with_found found edges)

-- where it comes to entries, they are the item's and then those of the others
both_right : (n : ℕ) (read : Result (Option Edge) FaultKind) (others : Result (List Edge) LoadFault) (edges : List Edge) →
    item_and_others n read others ≡ Ok edges →
    (rest : List Edge) × (others ≡ Ok rest) × (edges ≡ found_in read ++ rest) × ((kind : FaultKind) → read ≡ Err kind → ⊥)
both_right n (Err kind) others edges is = absurd (cc)
both_right n (Ok found) (Err fault) edges is = absurd (cc)
both_right n (Ok None) (Ok rest) edges is = (rest, refl, cc, λ kind wrong. absurd (cc))
both_right n (Ok (Some edge)) (Ok rest) edges is = (rest, refl, cc, λ kind wrong. absurd (cc))

-- where it comes to a fault, that is the item's, or the item is right and it is one of the others
one_wrong : (n m : ℕ) (kind : FaultKind) (read : Result (Option Edge) FaultKind) (others : Result (List Edge) LoadFault) →
    item_and_others n read others ≡ Err (Line m kind) →
    ((m ≡ n) × (read ≡ Err kind)) ⊎ (((why : FaultKind) → read ≡ Err why → ⊥) × (others ≡ Err (Line m kind)))
one_wrong n m kind (Err why) others is = inl (cc, cc)
one_wrong n m kind (Ok found) (Ok rest) is = absurd (cc)
one_wrong n m kind (Ok found) (Err fault) is = inr ((λ why wrong. absurd (cc)), cc)

-- it doesn't come to want of memory
no_memory : (n : ℕ) (read : Result (Option Edge) FaultKind) (others : Result (List Edge) LoadFault) → item_and_others n read others ≡ Err Memory →
    others ≡ Err Memory
no_memory n (Err why) others is = absurd (cc)
no_memory n (Ok found) (Ok rest) is = absurd (cc)
no_memory n (Ok found) (Err fault) is = cc

-- the entries that are read are those of the items
pub entries_law : (reads : Reader) (n : ℕ) (items : List (List ℕ)) (edges : List Edge) → entries_from reads n items ≡ Ok edges → AreEntriesOf reads items edges
entries_law reads n [] edges is = record { right = λ k item here. absurd (cc); entries = cc }
entries_law reads n (item ∷ more) edges is =
    let both = both_right n (reads item) (entries_from reads (n + 1) more) edges is in
    let others = entries_law reads (n + 1) more both.0 both.1 in
    record {
      right = right both.3 others;
      entries = both.2 ∙ ap (λ (l : List Edge). found_in (reads item) ++ l) others.entries;
    }
  where
    right : ((kind : FaultKind) → reads item ≡ Err kind → ⊥) → {rest : List Edge} → AreEntriesOf reads more rest → (k : ℕ) (one : List ℕ) →
        slice_get (item ∷ more) k ≡ Some one → IsRight reads one
    right first others zero one here = let same : item ≡ one = cc in subst (λ (i : List ℕ). IsRight reads i) same first
    right first others (suc k) one here = others.right k one here

-- the fault that is read is the first
pub fault_law : (reads : Reader) (n : ℕ) (items : List (List ℕ)) (m : ℕ) (kind : FaultKind) → entries_from reads n items ≡ Err (Line m kind) →
    HasFirstFault reads n items m kind
fault_law reads n [] m kind is = absurd (cc)
fault_law reads n (item ∷ more) m kind is = elim (one_wrong n m kind (reads item) (entries_from reads (n + 1) more) is) [
  | inl here ↦ record {
    place = 0;
    item = item;
    counted = omega (arith, here.0);
    there = refl;
    fault = here.1;
    before = λ k earlier below is'. absurd (omega arith);
  }
  | inr behind ↦ later behind.0 (fault_law reads (n + 1) more m kind behind.1)
]
  where
    before : ((why : FaultKind) → reads item ≡ Err why → ⊥) → (found : HasFirstFault reads (n + 1) more m kind) →
        (k : ℕ) (earlier : List ℕ) → k < suc found.place → slice_get (item ∷ more) k ≡ Some earlier → IsRight reads earlier
    before first found zero earlier below here = let same : item ≡ earlier = cc in subst (λ (i : List ℕ). IsRight reads i) same first
    before first found (suc k) earlier below here = found.before k earlier (omega arith) here

    later : ((why : FaultKind) → reads item ≡ Err why → ⊥) → HasFirstFault reads (n + 1) more m kind → HasFirstFault reads n (item ∷ more) m kind
    later first found = record {
      place = suc found.place;
      item = found.item;
      counted = omega (arith, found.counted);
      there = found.there;
      fault = found.fault;
      before = before first found;
    }

-- want of memory is never read
pub memory_law : (reads : Reader) (n : ℕ) (items : List (List ℕ)) → entries_from reads n items ≡ Err Memory → ⊥
memory_law reads n [] is = absurd (cc)
memory_law reads n (item ∷ more) is = memory_law reads (n + 1) more (no_memory n (reads item) (entries_from reads (n + 1) more) is)
