-- What a machine that stands allows its parties: numbers that fit, and entries that words can hold.
use Rattle.std.proofs.Common.{◌≡◌, ℕ, ◌+◌, ◌^◌, ◌<◌, ◌≤◌, ◌⊎◌, true, List, length, get_or, ◌++◌, Option, Some, None, Result, Ok, Err, sym, refl, ap, ◌∙◌}
use Rattle.std.proofs.Common.{inl, inr, ⊎_elim, arith, subst}
use Rattle.std.specs.Prelude.{All, find, sum_by, IfOk, OnErr}
use Rattle.std.proofs.lemmas.Bool.{cases_lt}
use Rattle.std.proofs.lemmas.List.{length-map, get_or_past, get_or_default}
use Rattle.std.proofs.lemmas.List.Elements.{All-nil}
use Rattle.std.specs.declared.alloc.AllocError.{AllocError}
use mathlib.Core.Option.{some}
use lib.ListN.{get_elem?}
use Rattle.go_word.specs.declared.edge.Edge.{Edge}
use Rattle.go_word.specs.Word.{IsStorable}
use Rattle.go_core.specs.declared.act.Act.{Act}
use Rattle.go_core.specs.declared.act.Act.TheVariants.{Claim, LoadHead, LoadArchived, LoadDurable, StoreWord, LoadOrdered, LoadTentative, StoreArchived}
use Rattle.go_core.specs.declared.act.Act.TheVariants.{StoreDurable, TakeTurn, PartOut, PartIn, GiveTurn, LoadFlag, StoreFlag, Split, Join}
use Rattle.go_core.specs.declared.act.Out.{Out}
use Rattle.go_core.specs.declared.act.Out.TheVariants.{Refused}
use Rattle.go_core.specs.declared.entry.Entry.{Entry}
use Rattle.go_core.specs.declared.view.View.{View}
use Rattle.go_core.specs.declared.party.Party.{Party}
use Rattle.go_core.specs.declared.home.Parts.{Parts}
use Rattle.go_core.specs.Frame.{Frame}
use Rattle.go_core.specs.View.{stands_at, stands, count_at}
use Rattle.go_core.specs.Acts.{HasRoom}
use Rattle.go_core.specs.Rule.{IsOf, TiedBy}
use Rattle.go_core.specs.Machine.{Machine, IsTied, Stands, IsReady, absent, views_of, party_at, Row, Stores, claims, machine_of}
use Rattle.go_core.proofs.Lookups.{lookup-get_or}
use Rattle.go_core.proofs.Totals.{term-le}
use Rattle.go_core.proofs.Entries.{count_at-Contains}
use Rattle.go_core.proofs.Moved.{within_log}
use Rattle.go_core.proofs.Parted.{view_at}
use Rattle.go_core.proofs.Rows.{row_keeps}

-- a party's view takes part in the sums, or it is that of an absent party
pub seated_or_absent : (m : Machine) (i : ℕ) → (get_elem? (views_of m.parties) i ≡ some (party_at m i).view) ⊎ (party_at m i ≡ absent)
seated_or_absent m i =
    ⊎_elim
    (λ (within : i < length m.parties).
    let long : length (views_of m.parties) ≡ length m.parties = length-map m.parties (λ p. p.view) in
    inl (lookup-get_or (views_of m.parties) i absent.view (omega arith) ∙ ap some (view_at m.parties i)))
    (λ (past : length m.parties ≤ i). inr (get_or_past m.parties i absent past)) (cases_lt i (length m.parties))

-- pending entries stand at positions that the machine serves
storable_pending : (f : Frame) (log : List Edge) (words : List ℕ) (views : List View) (i : ℕ) (v : View) → get_elem? views i ≡ some v
    → TiedBy f log words views → All (λ x. IsStorable x.edge) v.pending
storable_pending f log words views i v there tied k d within =
    let s = tied.seated i v there in
    let x : Entry = get_or v.pending k d in
    let of_log : IsOf log x = s.owes.pending_of k d within in
    let counted : 0 < count_at x.at v.pending = count_at-Contains v.pending x (k, within, get_or_default v.pending k x d within) in
    let term : stands x.at v ≤ sum_by (stands x.at) views = term-le (stands x.at) views i v there in
    let from : f.first ≤ x.at =
    ⊎_elim (λ (less : x.at < f.first). let none : sum_by (stands x.at) views ≡ 0 = tied.stand.before x.at less in absurd (omega arith)) (λ over. over)
    (cases_lt x.at f.first)
    in
    tied.storable x.at x.edge from of_log

-- a party of a standing machine is ready
pub ready : (m : Machine) (i : ℕ) → m.frame.base ≡ 6 → Stands m → IsReady m i
ready m i base stands =
    let t = stands.tied.tied in
    let r = t.ringed in
    let fits = stands.tied.fits in
    let view : (((party_at m i).view.taken ≤ 2 ^ 48) × All (λ x. IsStorable x.edge) (party_at m i).view.pending) =
    ⊎_elim
    (λ there.
    let v = (party_at m i).view in
    let s = t.seated i v there in
    let taken = s.takes.to in
    let seen : v.seen ≤ length stands.log = within_log stands.log (views_of m.parties) v.seen s.sees.written in
    (omega arith, storable_pending m.frame stands.log m.words (views_of m.parties) i v there t))
    (λ none.
    let P : Party → Type 0 = λ p. (p.view.taken ≤ 2 ^ 48) × All (λ x. IsStorable x.edge) p.view.pending in
    subst P (sym none) (omega arith, All-nil (λ x. IsStorable x.edge))) (seated_or_absent m i)
    in
    record { some = r.shape.some_slots; few = stands.few; words = r.shape.all_words ∙ ap (λ n. n + m.frame.slots) base; taken = view.0; storable = view.1 }

-- a dead party's store
stores_dead : (m : Machine) (i at : ℕ) (o : Option Entry) → ((party_at m i).view.live ≡ true → ⊥) → Stores m i at o Refused m
stores_dead m i at None dead = (refl, refl)
stores_dead m i at (Some x) dead = inr ((λ can. dead can.0), refl, refl)

-- a store without room is refused, whether or not the entry is there
pub stores_refused : (m : Machine) (i at : ℕ) (o : Option Entry) → (HasRoom m.frame (party_at m i).view at → ⊥) → Stores m i at o Refused m
stores_refused m i at None full = (refl, refl)
stores_refused m i at (Some x) full = inr ((λ can. full can.1), refl, refl)

-- each act of a party that takes no part is refused
pub row_dead : (m : Machine) (i : ℕ) (act : Act) → ((party_at m i).view.live ≡ true → ⊥) → Row m i act Refused m
row_dead m i (Claim edges) dead = inr ((λ can. dead can.0), refl, refl)
row_dead m i LoadHead dead = inr (dead, refl, refl)
row_dead m i LoadArchived dead = inr (dead, refl, refl)
row_dead m i LoadDurable dead = inr (dead, refl, refl)
row_dead m i (StoreWord at) dead = stores_dead m i at (find (stands_at at) (party_at m i).view.pending) dead
row_dead m i (LoadOrdered at) dead = inr ((λ can. dead can.0), refl, refl)
row_dead m i (LoadTentative at) dead = inr ((λ can. dead can.0), refl, refl)
row_dead m i (StoreArchived front) dead = inr ((λ can. dead can.0), refl, refl)
row_dead m i (StoreDurable front) dead = inr ((λ can. dead can.0), refl, refl)
row_dead m i (TakeTurn part) dead = inr ((λ can. dead can.0), refl, refl)
row_dead m i (PartOut part) dead = inr ((λ can. dead can.0), refl, refl)
row_dead m i (PartIn part state) dead = inr ((λ can. dead can.0), refl, refl)
row_dead m i (GiveTurn part) dead = inr ((λ can. dead can.0), refl, refl)
row_dead m i LoadFlag dead = inr (dead, refl, refl)
row_dead m i (StoreFlag why) dead = inr ((λ can. dead can.0), refl, refl)
row_dead m i Split dead = inr ((λ can. dead can.0), refl, refl)
row_dead m i (Join j) dead = inr ((λ can. dead can.0), refl, refl)

-- what stands goes on standing
pub stands_on : (m now : Machine) (log : List Edge) → now.frame ≡ m.frame → Stands m → IsTied now log → Stands now
stands_on m now log frame stands tied = record { few = let old = stands.few in subst (λ (f : Frame). f.slots ≤ 2 ^ 48) (sym frame) old; log = log; tied = tied }

-- the row of an act that is known, and leaves the parts
pub one_row : (r : Result Out AllocError) (slots : ℕ) (words words' : List ℕ) (parties parties' : List Party) (parts : Parts) (i : ℕ) (act a : Act) → act ≡ a
    → IfOk r (λ out. (s first : ℕ) (ps : Parts) → Row (machine_of s first words parties ps) i a out (machine_of s first words' parties' ps))
    → IfOk r (λ out. (first : ℕ) → Row (machine_of slots first words parties parts) i act out (machine_of slots first words' parties' parts))
one_row (Ok out) slots words words' parties parties' parts i act a is row = λ first. subst
    (λ b. Row (machine_of slots first words parties parts) i b out (machine_of slots first words' parties' parts)) (sym is) (row slots first parts)
one_row (Err failed) slots words words' parties parties' parts i act a is row = tt

-- of one that goes by the number of slots
pub slot_row : (r : Result Out AllocError) (slots : ℕ) (words words' : List ℕ) (parties parties' : List Party) (parts : Parts) (i : ℕ) (act a : Act) → act ≡ a
    → IfOk r (λ out. (first : ℕ) (ps : Parts) → Row (machine_of slots first words parties ps) i a out (machine_of slots first words' parties' ps))
    → IfOk r (λ out. (first : ℕ) → Row (machine_of slots first words parties parts) i act out (machine_of slots first words' parties' parts))
slot_row (Ok out) slots words words' parties parties' parts i act a is row = λ first. subst
    (λ b. Row (machine_of slots first words parties parts) i b out (machine_of slots first words' parties' parts)) (sym is) (row first parts)
slot_row (Err failed) slots words words' parties parties' parts i act a is row = tt

-- of one that leaves the words and the parts
pub one_row_parties : (r : Result Out AllocError) (slots : ℕ) (words : List ℕ) (parties parties' : List Party) (parts : Parts) (i : ℕ) (act a : Act) → act ≡ a
    → IfOk r (λ out. (s first : ℕ) (ws : List ℕ) (ps : Parts) → Row (machine_of s first ws parties ps) i a out (machine_of s first ws parties' ps))
    → IfOk r (λ out. (first : ℕ) → Row (machine_of slots first words parties parts) i act out (machine_of slots first words parties' parts))
one_row_parties (Ok out) slots words parties parties' parts i act a is row = λ first. subst
    (λ b. Row (machine_of slots first words parties parts) i b out (machine_of slots first words parties' parts)) (sym is) (row slots first words parts)
one_row_parties (Err failed) slots words parties parties' parts i act a is row = tt

-- of one that leaves the words alone
pub one_row_parts : (r : Result Out AllocError) (slots : ℕ) (words : List ℕ) (parties parties' : List Party) (parts parts' : Parts) (i : ℕ) (act a : Act)
    → act ≡ a → IfOk r (λ out. (s first : ℕ) (ws : List ℕ) → Row (machine_of s first ws parties parts) i a out (machine_of s first ws parties' parts'))
    → IfOk r (λ out. (first : ℕ) → Row (machine_of slots first words parties parts) i act out (machine_of slots first words parties' parts'))
one_row_parts (Ok out) slots words parties parties' parts parts' i act a is row = λ first. subst
    (λ b. Row (machine_of slots first words parties parts) i b out (machine_of slots first words parties' parts')) (sym is) (row slots first words)
one_row_parts (Err failed) slots words parties parties' parts parts' i act a is row = tt

-- of one that leaves the parts as they were given
pub one_row_turn : (r : Result Out AllocError) (slots : ℕ) (words words' : List ℕ) (parties parties' : List Party) (parts : Parts) (i : ℕ) (act a : Act)
    → act ≡ a → IfOk r (λ out. (s first : ℕ) → Row (machine_of s first words parties parts) i a out (machine_of s first words' parties' parts))
    → IfOk r (λ out. (first : ℕ) → Row (machine_of slots first words parties parts) i act out (machine_of slots first words' parties' parts))
one_row_turn (Ok out) slots words words' parties parties' parts i act a is row = λ first. subst
    (λ b. Row (machine_of slots first words parties parts) i b out (machine_of slots first words' parties' parts)) (sym is) (row slots first)
one_row_turn (Err failed) slots words words' parties parties' parts i act a is row = tt

-- where memory was wanting, nothing changed
pub record Unchanged (r : Result Out AllocError) (words words' : List ℕ) (parties parties' : List Party) (parts parts' : Parts) : Type 0 where
  pub words_same : OnErr r (words' ≡ words)
  pub parties_same : OnErr r (parties' ≡ parties)
  pub parts_same : OnErr r (parts' ≡ parts)

-- a machine stands after a step, done or not
pub stands_after : (slots first : ℕ) (words words' : List ℕ) (parties parties' : List Party) (parts parts' : Parts) (i : ℕ) (act : Act)
    (r : Result Out AllocError) → Stands (machine_of slots first words parties parts)
    → IfOk r (λ out. (f : ℕ) → Row (machine_of slots f words parties parts) i act out (machine_of slots f words' parties' parts'))
    → Unchanged r words words' parties parties' parts parts' → Stands (machine_of slots first words' parties' parts')
stands_after slots first words words' parties parties' parts parts' i act (Ok out) stands row same =
    let m = machine_of slots first words parties parts in
    let now = machine_of slots first words' parties' parts' in
    stands_on m now (stands.log ++ claims act out) refl stands (row_keeps m i act out now stands.log (row first) stands.tied)
stands_after slots first words words' parties parties' parts parts' i act (Err failed) stands row same =
    subst (λ ws. Stands (machine_of slots first ws parties' parts')) (sym same.words_same)
    (subst (λ ps. Stands (machine_of slots first words ps parts')) (sym same.parties_same)
    (subst (λ hs. Stands (machine_of slots first words parties hs)) (sym same.parts_same) stands))

-- and what it was tied to, it still is, followed by what was claimed
pub tied_after : (slots first : ℕ) (words words' : List ℕ) (parties parties' : List Party) (parts parts' : Parts) (i : ℕ) (act : Act)
    (r : Result Out AllocError) → IfOk r (λ out. (f : ℕ) → Row (machine_of slots f words parties parts) i act out (machine_of slots f words' parties' parts'))
    → IfOk r (λ out. (log : List Edge) → IsTied (machine_of slots first words parties parts) log
    → IsTied (machine_of slots first words' parties' parts') (log ++ claims act out))
tied_after slots first words words' parties parties' parts parts' i act (Ok out) row = λ log tied. row_keeps
    (machine_of slots first words parties parts) i act out (machine_of slots first words' parties' parts') log (row first) tied
tied_after slots first words words' parties parties' parts parts' i act (Err failed) row = tt
