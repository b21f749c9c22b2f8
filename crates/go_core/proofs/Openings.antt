-- A machine that begins is tied to every log of as many entries as lie before its first position.
use Rattle.std.proofs.Common.{◌≡◌, ℕ, zero, suc, ◌+◌, ◌*◌, ◌^◌, ◌<◌, ◌≤◌, Bool, true, false, List, [], ◌∷◌, ◌++◌, map, length, set, take, replicate, sym}
use Rattle.std.proofs.Common.{refl, ap, ◌∙◌, arith, subst}
use Rattle.std.specs.Prelude.{All, Contains, Some, slice_get, sum_by, count_by, slice_index}
use Rattle.std.proofs.lemmas.List.{length-set, length-replicate, get_or-replicate, take_at}
use Rattle.std.proofs.lemmas.List.Sums.{sum_by-cons}
use Rattle.std.proofs.lemmas.List.Elements.{All-cons}
use Rattle.go_core.specs.declared.act.Role.{Role}
use Rattle.go_core.specs.declared.act.Role.TheVariants.{Session}
use Rattle.go_core.specs.declared.part.PartState.{PartState}
use Rattle.go_core.specs.declared.stake.Stake.{Stake}
use Rattle.std.proofs.lemmas.List.Sums.{sum_by-le}
use Rattle.std.proofs.lemmas.List.Elements.{All-nil, All-weaker}
use Rattle.go_word.specs.declared.edge.Edge.{Edge}
use Rattle.go_word.specs.Word.{is_matched, blank_word}
use Rattle.go_word.proofs.WordLaws.{is_matched-blank_word}
use Rattle.go_core.specs.declared.view.View.{View}
use Rattle.go_core.specs.Frame.{Frame, slot, archived_in, durable_in, flag_in}
use Rattle.go_core.specs.View.{unfilled, stands}
use Rattle.go_core.specs.Rule.{owed, IsWritten, IsSound, Seated, TiedBy}
use Rattle.go_core.specs.Opening.{AreOpening, opening_view, opening_party, opening_home, opening_parts, archives_as, flushes_as}
use Rattle.go_word.specs.Pins.{is_named}
use Rattle.go_core.specs.Pins.{owns_name}
use Rattle.go_core.specs.Parts.{Reaches, IsPartOf, IsShardOf, IsPinnedBy}
use Rattle.go_core.specs.Turns.{hold_of, home_of}
use Rattle.go_core.specs.Machine.{IsTied, AreParted, views_of, stakes_of, states_of, turn_in, frame_of, machine_of}
use Rattle.go_core.proofs.Lookups.{lookup-within}
use Rattle.go_core.proofs.Totals.{bit_of}
use Rattle.go_core.proofs.Moved.{word_here, word_other}
use Rattle.go_core.proofs.Claims.{All-lookup}
use Rattle.go_core.proofs.Splits.{owes_none, owns_none}
use Rattle.go_core.proofs.TurnLaws.{count-none}
use Rattle.std.proofs.lemmas.Option.{same_Some, none-some}
use Rattle.std.proofs.lemmas.Bool.{false≢true, true≢false}

-- a view is one of the beginning, with whatever role
abbrev pub IsOpening : ℕ → View → Type 0
IsOpening first v = v ≡ opening_view first v.archives v.flushes

-- a sum of nothing
sum_none : (g : View → ℕ) (views : List View) → All (λ v. g v ≡ 0) views → sum_by g views ≡ 0
sum_none g views none =
    let bound : sum_by g views ≤ length views * 0 = sum_by-le g 0 views (All-weaker (λ v. g v ≡ 0) (λ v. g v ≤ 0) (λ v is. is_le (g v) is) views none) in
    omega arith
  where
    is_le : (n : ℕ) → n ≡ 0 → n ≤ 0
    is_le n is = omega arith

-- a view of the beginning meets the rule
seated_opening : (f : Frame) (log : List Edge) (words : List ℕ) (views : List View) (archives flushes : Bool) → AreOpening f words → f.first ≤ length log
    → ((p : ℕ) → p < f.first → IsWritten log views p) → Seated f log words views (opening_view f.first archives flushes)
seated_opening f log words views archives flushes o from written =
    let archived = o.archived in
    let durable = o.durable in
    record {
      ended = λ dead. absurd (true≢false dead);
      takes = record { from = λ live. omega arith; to = omega arith };
      sees = record { marked_to = omega arith; written = written };
      knows = record { head_to = from; archived_to = omega arith; durable_to = omega arith };
      works = record {
        archiver = record { knows = λ role. sym archived; took = λ role. omega arith };
        flusher = record { knows = λ role. sym durable; took = λ role. omega arith };
      };
      owes = owes_none log (flag_in words);
      owns = owns_none log views;
      reads = All-nil (IsSound f log words views f.first);
    }

-- the opening state is tied
pub opening_tied : (f : Frame) (log : List Edge) (words : List ℕ) (views : List View) → 0 < f.slots → 4 ≤ f.base → AreOpening f words → length log ≡ f.first
    → All (IsOpening f.first) views → count_by (λ v. v.archives) views ≤ 1 → count_by (λ v. v.flushes) views ≤ 1 → TiedBy f log words views
opening_tied f log words views some_slots four_words o long all one_archiver one_flusher =
    let first = f.first in
    let head = o.head in
    let archived = o.archived in
    let durable = o.durable in
    let flag = o.flag in
    let owe : (p : ℕ) → owed views p ≡ 0 = λ p. sum_none (unfilled p) views
    (All-weaker (IsOpening first) (λ v. unfilled p v ≡ 0) (λ v is. ap (unfilled p) is) views all) in
    let stand : (p : ℕ) → sum_by (stands p) views ≡ 0 = λ p. sum_none (stands p) views
    (All-weaker (IsOpening first) (λ v. stands p v ≡ 0) (λ v is. ap (stands p) is) views all) in
    let disks : count_by (λ v. v.disk_raised) views ≡ 0 = sum_none (λ v. bit_of v.disk_raised) views
    (All-weaker (IsOpening first) (λ v. bit_of v.disk_raised ≡ 0) (λ v is. ap (λ u. bit_of u.disk_raised) is) views all) in
    let memories : count_by (λ v. v.memory_raised) views ≡ 0 = sum_none (λ v. bit_of v.memory_raised) views
    (All-weaker (IsOpening first) (λ v. bit_of v.memory_raised ≡ 0) (λ v is. ap (λ u. bit_of u.memory_raised) is) views all) in
    let written : (p : ℕ) → p < first → IsWritten log views p = λ p less. record { within = omega arith; filled = owe p } in
    record {
      ringed = record {
        shape = record { some_slots = some_slots; four_words = four_words; all_words = o.all_words; head = omega arith };
        archived = record { from = omega arith; to = omega arith; written = λ p below. written p (omega arith) };
        durable = record { from = omega arith; to = omega arith; written = λ p below. written p (omega arith) };
        beyond = λ p far within. absurd (omega arith);
        holds = λ p e from to is there. let less = is.within in absurd (omega arith);
        waits = λ p from to not. ap (is_matched f.slots p) (o.blanks p (omega arith) (omega arith)) ∙ is_matched-blank_word f.slots p;
      };
      seated = λ i v there.
          (let is : IsOpening first v = All-lookup (IsOpening first) views i v all there in
          subst (λ u. Seated f log words views u) (sym is) (seated_opening f log words views v.archives v.flushes o (omega arith) written));
      stand = record { once = λ p from within. absurd (omega arith); before = λ p less. stand p; after = λ p over. stand p };
      one_archiver = one_archiver;
      one_flusher = one_flusher;
      storable = λ p e from there. let within = lookup-within log p e there in absurd (omega arith);
      flag = record {
        known = omega arith;
        none_disk = λ none. disks;
        none_memory = λ none. memories;
        disk = λ is. absurd (omega arith);
        memory = λ is. absurd
            (omega arith);
      };
    }

-- the words of the beginning, by what was written over zeros
pub opening_words : (base slots first : ℕ) (zeros words : List ℕ) → 4 ≤ base → zeros ≡ replicate (base + slots) 0
    → ((k : ℕ) → k < base → slice_index words k ≡ slice_index (set (set (set zeros 0 first) 1 first) 2 first) k)
    → ((p : ℕ) → first ≤ p → p < first + slots → slot (record { slots = slots; base = base; first = first }) words p ≡ blank_word slots p)
    → length words ≡ base + slots → AreOpening (record { slots = slots; base = base; first = first }) words
opening_words base slots first zeros words four are shared blanks long =
    let many : length zeros ≡ base + slots = ap length are ∙ length-replicate (base + slots) 0 in
    let one = set zeros 0 first in
    let two = set one 1 first in
    let long_one : length one ≡ length zeros = length-set zeros 0 first in
    let long_two : length two ≡ length one = length-set one 1 first in
    let zero_at : (k : ℕ) → k < base → slice_index zeros k ≡ 0 = λ k less. ap (λ zs. slice_index zs k) are
    ∙ get_or-replicate (base + slots) k 0 0 (omega arith) in
    let other : (k : ℕ) → 2 < k → k < base → slice_index words k ≡ 0 = λ k more less.
    shared k less ∙ word_other two 2 k first (λ e. omega arith) ∙ word_other one 1 k first (λ e. omega arith) ∙ word_other zeros 0 k first (λ e. omega arith)
    ∙ zero_at k less
    in
    record {
      all_words = long;
      head = shared 0 (omega arith) ∙ word_other two 2 0 first (λ e. omega arith) ∙ word_other one 1 0 first (λ e. omega arith)
          ∙ word_here zeros 0 first (omega arith);
      archived = shared 1 (omega arith) ∙ word_other two 2 1 first (λ e. omega arith) ∙ word_here one 1 first (omega arith);
      durable = shared 2 (omega arith) ∙ word_here two 2 first (omega arith);
      flag = other 3 (omega arith) (omega arith);
      turns = λ k from to. other k (omega arith) to;
      blanks = blanks;
    }

-- a slice of a whole vector, written back
pub whole_written : (words : List ℕ) (n : ℕ) (rest : List ℕ) → length words ≡ n → take n (words ++ rest) ≡ words
whole_written words n rest long = take_at words rest n long

-- the views of parties at the beginning
opening_views : (first : ℕ) (roles : List Role) → All (IsOpening first) (views_of (map (opening_party first) roles))
opening_views first [] = All-nil (IsOpening first)
opening_views first (r ∷ rs) = All-cons (IsOpening first) (opening_party first r).view (views_of (map (opening_party first) rs)) refl (opening_views first rs)

-- they have the roles that were asked for
count_roles : (g : View → Bool) (h : Role → Bool) (first : ℕ) → ((r : Role) → g (opening_party first r).view ≡ h r) → (roles : List Role)
    → count_by g (views_of (map (opening_party first) roles)) ≡ count_by h roles
count_roles g h first same [] = refl
count_roles g h first same (r ∷ rs) =
    let rest : count_by g (views_of (map (opening_party first) rs)) ≡ count_by h rs = count_roles g h first same rs in
    let one : bit_of (g (opening_party first r).view) ≡ bit_of (h r) = ap bit_of (same r) in
    omega (arith, sum_by-cons (λ v. bit_of (g v)) (opening_party first r).view (views_of (map (opening_party first) rs)), sum_by-cons (λ q. bit_of (h q)) r rs)

-- the stakes of parties at the beginning
opening_stakes : (P : Stake → Type 0) (first : ℕ) (roles : List Role) → P (opening_party first Session).stake
    → All P (stakes_of (map (opening_party first) roles))
opening_stakes P first [] one = All-nil P
opening_stakes P first (r ∷ rs) one = All-cons P (opening_party first r).stake (stakes_of (map (opening_party first) rs)) one (opening_stakes P first rs one)

-- both parts reach to the first position, and nobody holds anything
opening_parted : (slots first : ℕ) (words : List ℕ) (roles : List Role) (log : List Edge) → AreOpening (frame_of slots first) words → length log ≡ first
    → TiedBy (frame_of slots first) log words (views_of (map (opening_party first) roles))
    → AreParted (machine_of slots first words (map (opening_party first) roles) (opening_parts first)) log
opening_parted slots first words roles log o long tied =
    let m = machine_of slots first words (map (opening_party first) roles) (opening_parts first) in
    let f = frame_of slots first in
    let stakes = stakes_of m.parties in
    let archived = o.archived in
    let durable = o.durable in
    let part : PartState = (opening_home first).part in
    let one : (place : ℕ) (p : PartState) → slice_get (states_of m.parts) place ≡ Some p → part ≡ p = one_part first in
    record {
      two = refl;
      parts = record {
        of_log = λ place p there.
            subst (IsPartOf (λ (s : PartState). s) Reaches log (views_of m.parties)) (one place p there)
            (record { stands = omega arith; written = λ q below. tied.ringed.archived.written q (omega arith) });
        shards = λ place p there shard.
            subst (IsShardOf (archived_in words)) (one place p there)
            (record {
              archived_to = omega arith;
              cut_to = omega arith;
              cut_pins = All-nil (λ pin. 0 ≤ pin.front);
              pins_to = All-nil
                  (λ pin. pin.front ≤ archived_in words);
              names = All-nil (λ pin. count_by (is_named pin.id) [] ≡ 1);
            });
        reached = λ place p there shard i v at_i role.
            (let took = (tied.seated i v at_i).works.archiver.took role in
            subst (λ (s : PartState). s.front ≤ v.taken) (one place p there) (omega arith));
        file = λ place p there file. subst (λ (s : PartState). durable_in words ≤ s.front) (one place p there) (omega arith);
      };
      turns = λ b.
          (let none : turn_in b words ≡ 0 = turn_none slots first words o b in
          let nobody : count_by (λ s. (hold_of b s).turn) stakes ≡ 0 = count-none (λ s. (hold_of b s).turn) stakes
          (opening_stakes (λ s. (hold_of b s).turn ≡ false) first roles (free b first)) in
          record { counts = nobody ∙ sym none; one = omega arith });
      homes = λ b out. absurd (at_home b first out);
      known = λ b. opening_stakes (λ s. (hold_of b s).front ≤ (home_of b m.parts).part.front) first roles (known_to b first);
      pinned = record {
        each = opening_stakes (IsPinnedBy (λ (s : Stake). s.pins) (λ s. s.put) (λ s. s.shard.turn) []) first roles
            (record { pinned = λ free. All-nil (Contains []); none_put = λ free. refl });
        apart = λ id.
            (let nobody : count_by (λ (s : Stake). owns_name id s.pins s.put) stakes ≡ 0 = count-none (λ (s : Stake). owns_name id s.pins s.put) stakes
            (opening_stakes (λ s. owns_name id s.pins s.put ≡ false) first roles refl) in
            omega arith);
      };
    }
  where
    one_part : (first place : ℕ) (p : PartState) → slice_get (states_of (opening_parts first)) place ≡ Some p → (opening_home first).part ≡ p
    one_part first zero p there = same_Some (opening_home first).part p there
    one_part first (suc zero) p there = same_Some (opening_home first).part p there
    one_part first (suc (suc place)) p there = absurd (none-some p there)

    turn_none : (slots first : ℕ) (words : List ℕ) → AreOpening (frame_of slots first) words → (b : Bool) → turn_in b words ≡ 0
    turn_none slots first words o true = o.turns 4 (omega arith) (omega arith)
    turn_none slots first words o false = o.turns 5 (omega arith) (omega arith)

    free : (b : Bool) (first : ℕ) → (hold_of b (opening_party first Session).stake).turn ≡ false
    free true first = refl
    free false first = refl

    at_home : (b : Bool) (first : ℕ) → (home_of b (opening_parts first)).out ≡ true → ⊥
    at_home true first out = false≢true out
    at_home false first out = false≢true out

    known_to : (b : Bool) (first : ℕ) → (hold_of b (opening_party first Session).stake).front ≤ (home_of b (opening_parts first)).part.front
    known_to true first = omega arith
    known_to false first = omega arith

-- a machine that begins is tied to every log of as many entries as come before its first position
pub opening_machine : (slots first : ℕ) (words : List ℕ) (roles : List Role) → 0 < slots → first ≤ 2 ^ 48 → AreOpening (frame_of slots first) words
    → count_by archives_as roles ≤ 1 → count_by flushes_as roles ≤ 1 → (log : List Edge) → length log ≡ first
    → IsTied (machine_of slots first words (map (opening_party first) roles) (opening_parts first)) log
opening_machine slots first words roles any few opening archivers flushers log long =
    let views = views_of (map (opening_party first) roles) in
    let a : count_by (λ v. v.archives) views ≡ count_by archives_as roles = count_roles (λ v. v.archives) archives_as first (λ r. refl) roles in
    let b : count_by (λ v. v.flushes) views ≡ count_by flushes_as roles = count_roles (λ v. v.flushes) flushes_as first (λ r. refl) roles in
    let tied = opening_tied (frame_of slots first) log words views any (omega arith) opening long (opening_views first roles) (omega arith) (omega arith) in
    record { tied = tied; parted = opening_parted slots first words roles log opening long tied; fits = omega arith }
