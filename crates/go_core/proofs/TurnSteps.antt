-- What the rule says of the parts lasts over steps of one party on its stake, and so as a turn is taken or given back.
use Rattle.std.proofs.Common.{◌≡◌, ℕ, ◌<◌, ◌≤◌, Bool, true, false, List, [], length, set, sym, refl, ap, ◌∙◌, ⊎_elim, arith, subst}
use Rattle.std.specs.Prelude.{All, Contains, filter}
use Rattle.std.proofs.lemmas.Bool.{both_ways, or_cases, false≢true, true≢false}
use Rattle.std.proofs.lemmas.List.Elements.{All-set, All-filter, All-contains_itself}
use Rattle.go_word.specs.declared.edge.Edge.{Edge}
use Rattle.go_word.specs.declared.pin.Pin.{Pin}
use Rattle.go_core.specs.declared.part.PartState.{PartState}
use Rattle.go_core.specs.declared.home.Parts.{Parts}
use Rattle.go_core.specs.declared.party.Party.{Party}
use Rattle.go_core.specs.declared.stake.Stake.{Stake}
use Rattle.go_core.specs.Frame.{archived_in, durable_in}
use Rattle.go_core.specs.View.{unmoved}
use Rattle.go_word.specs.Pins.{has_name}
use Rattle.go_core.specs.Pins.{owns_name}
use Rattle.go_core.specs.Rule.{IsWritten}
use Rattle.go_core.specs.Parts.{Reaches, IsReached, ArePartsOf, IsTurn, ArePinned, IsPinnedBy}
use Rattle.go_core.specs.Turns.{hold_of, home_of, turn_place, having_turn, giving}
use Rattle.go_core.specs.Machine.{Machine, AreParted, views_of, stakes_of, states_of, turn_in, party_at, with_word, with_stake}
use Rattle.go_core.proofs.Moved.{word_here, word_other}
use Rattle.go_core.proofs.Claims.{All-lookup}
use Rattle.go_core.proofs.TurnLaws.{turn_taken, turn_given, turn_same}
use Rattle.go_core.proofs.Pinned.{pinned_set, named_passes}
use Rattle.go_core.proofs.PartLaws.{parts_onward, parts_still}
use Rattle.go_core.proofs.Parted.{party_there, stake_there, views-set, stakes-set, written_less, reached_set}

-- what a party holds of each part
abbrev pub has_turn : Bool → Stake → Bool
has_turn part s = (hold_of part s).turn

-- the clause on pins, for the machine's stakes
abbrev pub PinnedIn : List Pin → List Stake → Type 0
PinnedIn held stakes = ArePinned (λ (s : Stake). s.pins) (λ s. s.put) (λ s. s.shard.turn) held stakes

-- what holds of the shard and of the file holds of each part
pub of_two : (P : Bool → Type 0) → P true → P false → (part : Bool) → P part
of_two P one two true = one
of_two P one two false = two

-- one party has another stake, to which the step told nothing of the log; no front was written
module _ (m : Machine) (i : ℕ) (s' : Stake) (words' : List ℕ) (parts' : Parts) (log : List Edge) (live : (party_at m i).view.live ≡ true)
    (are : AreParted m log) where
  pub stake_step : archived_in words' ≡ archived_in m.words → durable_in words' ≡ durable_in m.words
      → ArePartsOf (λ (s : PartState). s) Reaches m.frame log m.words (views_of m.parties) (states_of parts')
      → ((part : Bool) → IsTurn (has_turn part) (turn_in part words') (set (stakes_of m.parties) i s'))
      → ((part : Bool) → (home_of part parts').out ≡ true → 0 < turn_in part words')
      → ((part : Bool) → All (λ s. (hold_of part s).front ≤ (home_of part parts').part.front) (set (stakes_of m.parties) i s'))
      → PinnedIn parts'.shard.part.pins (set (stakes_of m.parties) i s')
      → AreParted (record m { words = words'; parties = set m.parties i (record { view = unmoved (party_at m i).view; stake = s' }); parts = parts' }) log
  stake_step archived durable parts turns homes known pinned =
      let v = (party_at m i).view in
      let p : Party = record { view = unmoved v; stake = s' } in
      let same = views-set m.parties i p in
      let stakes = stakes-set m.parties i p in
      let st = λ (s : PartState). s in
      let on = parts_onward st Reaches m.frame log log m.words (views_of m.parties) (views_of (set m.parties i p)) (states_of parts') (λ s reaches. reaches)
      (λ q written. subst (λ vs. IsWritten log vs q) (sym same)
      (written_less log log (views_of m.parties) i v (unmoved v) (party_there m i live) (omega arith) (λ n within. omega arith) q written))
      (λ front reached. subst (λ vs. IsReached vs front) (sym same)
      (reached_set (views_of m.parties) i v (unmoved v) (party_there m i live) (λ role. (role, omega arith)) front reached)) parts
      in
      record {
        two = are.two;
        parts = parts_still st Reaches m.frame log m.words words' (views_of (set m.parties i p)) (states_of parts') archived durable on;
        turns = λ part. subst (IsTurn (has_turn part) (turn_in part words')) (sym stakes) (turns part);
        homes = homes;
        known = λ part. subst (All (λ s. (hold_of part s).front ≤ (home_of part parts').part.front)) (sym stakes) (known part);
        pinned = subst (PinnedIn parts'.shard.part.pins) (sym stakes) pinned;
      }

  -- the party's pins as they were: it stays pinned
  pub same_pins : s'.pins ≡ (party_at m i).stake.pins → s'.put ≡ (party_at m i).stake.put → (s'.shard.turn ≡ false → (party_at m i).stake.shard.turn ≡ false)
      → PinnedIn m.parts.shard.part.pins (set (stakes_of m.parties) i s')
  same_pins pins put turn =
      let s = (party_at m i).stake in
      let held = m.parts.shard.part.pins in
      let one : IsPinnedBy (λ (z : Stake). z.pins) (λ z. z.put) (λ z. z.shard.turn) held s = All-lookup
      (IsPinnedBy (λ (z : Stake). z.pins) (λ z. z.put) (λ z. z.shard.turn) held) (stakes_of m.parties) i s are.pinned.each (stake_there m i live) in
      pinned_set (λ (z : Stake). z.pins) (λ z. z.put) (λ z. z.shard.turn) held (stakes_of m.parties) i s s' (stake_there m i live)
      (record { pinned = λ free. subst (All (Contains held)) (sym pins) (one.pinned (turn free)); none_put = λ free. put ∙ one.none_put (turn free) })
      (λ id is. ap (λ ps. owns_name id ps s.put) (sym pins) ∙ ap (λ ps. owns_name id s'.pins ps) (sym put) ∙ is) are.pinned

  -- it knows a part as it did
  pub same_front : (part : Bool) → (hold_of part s').front ≡ (hold_of part (party_at m i).stake).front
      → All (λ s. (hold_of part s).front ≤ (home_of part m.parts).part.front) (set (stakes_of m.parties) i s')
  same_front part same =
      let P : Stake → Type 0 = λ s. (hold_of part s).front ≤ (home_of part m.parts).part.front in
      let old : P (party_at m i).stake = All-lookup P (stakes_of m.parties) i (party_at m i).stake (are.known part) (stake_there m i live) in
      All-set P (stakes_of m.parties) i s' (subst (λ n. n ≤ (home_of part m.parts).part.front) (sym same) old) (are.known part)

  -- it has a turn as it did
  pub same_turn : (part : Bool) → has_turn part s' ≡ has_turn part (party_at m i).stake
      → IsTurn (has_turn part) (turn_in part m.words) (set (stakes_of m.parties) i s')
  same_turn part same = turn_same (has_turn part) (stakes_of m.parties) i (party_at m i).stake s' (turn_in part m.words) (stake_there m i live) same
      (are.turns part)

-- a turn word that is written, and the other
turn_here : (part : Bool) (words : List ℕ) (n : ℕ) → 6 ≤ length words → turn_in part (set words (turn_place part) n) ≡ n
turn_here true words n long = word_here words 4 n (omega arith)
turn_here false words n long = word_here words 5 n (omega arith)

-- a turn is taken, and the other stays what it was: each is of its part, whose word it is
turns_taken : (m : Machine) (i : ℕ) (b : Bool) (log : List Edge) → (party_at m i).view.live ≡ true → 6 ≤ length m.words → turn_in b m.words ≡ 0 →
    AreParted m log
    → (part : Bool) → IsTurn (has_turn part) (turn_in part (set m.words (turn_place b) 1)) (set (stakes_of m.parties) i (having_turn b (party_at m i).stake))
turns_taken m i true log live long free are =
    let s = (party_at m i).stake in
    let s' = having_turn true s in
    let stakes = stakes_of m.parties in
    let taken = turn_taken (has_turn true) stakes i s s' (stake_there m i live) refl (subst (λ n. IsTurn (has_turn true) n stakes) free (are.turns true)) in
    of_two (λ part. IsTurn (has_turn part) (turn_in part (set m.words 4 1)) (set stakes i s'))
    (subst (λ n. IsTurn (has_turn true) n (set stakes i s')) (sym (turn_here true m.words 1 long)) taken)
    (subst (λ n. IsTurn (has_turn false) n (set stakes i s')) (sym (word_other m.words 4 5 1 (λ e. omega arith)))
    (same_turn m i s' (set m.words 4 1) m.parts log live are false refl))
turns_taken m i false log live long free are =
    let s = (party_at m i).stake in
    let s' = having_turn false s in
    let stakes = stakes_of m.parties in
    let taken = turn_taken (has_turn false) stakes i s s' (stake_there m i live) refl (subst (λ n. IsTurn (has_turn false) n stakes) free (are.turns false)) in
    of_two (λ part. IsTurn (has_turn part) (turn_in part (set m.words 5 1)) (set stakes i s'))
    (subst (λ n. IsTurn (has_turn true) n (set stakes i s')) (sym (word_other m.words 5 4 1 (λ e. omega arith)))
    (same_turn m i s' (set m.words 5 1) m.parts log live are true refl))
    (subst (λ n. IsTurn (has_turn false) n (set stakes i s')) (sym (turn_here false m.words 1 long)) taken)

-- a turn is taken
pub turn_parted : (m : Machine) (i : ℕ) (b : Bool) (log : List Edge) → (party_at m i).view.live ≡ true → 6 ≤ length m.words → turn_in b m.words ≡ 0
    → AreParted m log → AreParted (with_word (turn_place b) 1 (with_stake i (having_turn b (party_at m i).stake) m)) log
turn_parted m i true log live long free are =
    let s' = having_turn true (party_at m i).stake in
    let words' = set m.words 4 1 in
    let here : turn_in true words' ≡ 1 = turn_here true m.words 1 long in
    let other : turn_in false words' ≡ turn_in false m.words = word_other m.words 4 5 1 (λ e. omega arith) in
    stake_step m i s' words' m.parts log live are (word_other m.words 4 1 1 (λ e. omega arith)) (word_other m.words 4 2 1 (λ e. omega arith)) are.parts
    (turns_taken m i true log live long free are)
    (of_two (λ part. (home_of part m.parts).out ≡ true → 0 < turn_in part words') (λ out. omega arith) (λ out. let old = are.homes false out in omega arith))
    (of_two (λ part. All (λ z. (hold_of part z).front ≤ (home_of part m.parts).part.front) (set (stakes_of m.parties) i s'))
    (same_front m i s' words' m.parts log live are true refl) (same_front m i s' words' m.parts log live are false refl))
    (same_pins m i s' words' m.parts log live are refl refl (λ none. absurd (true≢false none)))
turn_parted m i false log live long free are =
    let s' = having_turn false (party_at m i).stake in
    let words' = set m.words 5 1 in
    let here : turn_in false words' ≡ 1 = turn_here false m.words 1 long in
    let other : turn_in true words' ≡ turn_in true m.words = word_other m.words 5 4 1 (λ e. omega arith) in
    stake_step m i s' words' m.parts log live are (word_other m.words 5 1 1 (λ e. omega arith)) (word_other m.words 5 2 1 (λ e. omega arith)) are.parts
    (turns_taken m i false log live long free are)
    (of_two (λ part. (home_of part m.parts).out ≡ true → 0 < turn_in part words') (λ out. let old = are.homes true out in omega arith) (λ out. omega arith))
    (of_two (λ part. All (λ z. (hold_of part z).front ≤ (home_of part m.parts).part.front) (set (stakes_of m.parties) i s'))
    (same_front m i s' words' m.parts log live are true refl) (same_front m i s' words' m.parts log live are false refl))
    (same_pins m i s' words' m.parts log live are refl refl (λ free'. free'))

-- a turn is given back
pub given_parted : (m : Machine) (i : ℕ) (b : Bool) (log : List Edge) → (party_at m i).view.live ≡ true → 6 ≤ length m.words
    → has_turn b (party_at m i).stake ≡ true → (home_of b m.parts).out ≡ false → AreParted m log
    → AreParted (with_word (turn_place b) 0 (with_stake i (giving b (home_of b m.parts).part (party_at m i).stake) m)) log
given_parted m i true log live long turn home are =
    let s = (party_at m i).stake in
    let part = m.parts.shard.part in
    let s' = giving true part s in
    let stakes = stakes_of m.parties in
    let words' = set m.words 4 0 in
    let own : Pin → Bool = λ pin. owns_name pin.id s.pins s.put in
    let given : IsTurn (has_turn true) 0 (set stakes i s') = turn_given (has_turn true) stakes i s s' (turn_in true m.words) (stake_there m i live) turn refl
    (are.turns true) in
    let here : turn_in true words' ≡ 0 = turn_here true m.words 0 long in
    let other : turn_in false words' ≡ turn_in false m.words = word_other m.words 4 5 0 (λ e. omega arith) in
    stake_step m i s' words' m.parts log live are (word_other m.words 4 1 0 (λ e. omega arith)) (word_other m.words 4 2 0 (λ e. omega arith)) are.parts
    (of_two (λ b. IsTurn (has_turn b) (turn_in b words') (set stakes i s')) (subst (λ n. IsTurn (has_turn true) n (set stakes i s')) (sym here) given)
    (subst (λ n. IsTurn (has_turn false) n (set stakes i s')) (sym other) (same_turn m i s' words' m.parts log live are false refl)))
    (of_two (λ b. (home_of b m.parts).out ≡ true → 0 < turn_in b words') (λ out. absurd (both_ways m.parts.shard.out home out))
    (λ out. let old = are.homes false out in omega arith))
    (of_two (λ b. All (λ z. (hold_of b z).front ≤ (home_of b m.parts).part.front) (set stakes i s'))
    (All-set (λ (z : Stake). z.shard.front ≤ part.front) stakes i s' (omega arith) (are.known true))
    (same_front m i s' words' m.parts log live are false refl))
    (pinned_set (λ (z : Stake). z.pins) (λ z. z.put) (λ z. z.shard.turn) part.pins stakes i s s' (stake_there m i live)
    (record { pinned = λ free. All-filter own (Contains part.pins) part.pins (All-contains_itself part.pins); none_put = λ free. refl })
    (λ id is.
    ⊎_elim (λ in_pins. let found = named_passes own part.pins id in_pins in ap (λ n. owns_name n s.pins s.put) (sym found.2) ∙ found.1)
    (λ in_put. absurd (false≢true in_put)) (or_cases (has_name id (filter own part.pins)) (has_name id []) is))
    are.pinned)
given_parted m i false log live long turn home are =
    let s = (party_at m i).stake in
    let part = m.parts.file.part in
    let s' = giving false part s in
    let stakes = stakes_of m.parties in
    let words' = set m.words 5 0 in
    let given : IsTurn (has_turn false) 0 (set stakes i s') = turn_given (has_turn false) stakes i s s' (turn_in false m.words)
    (stake_there m i live) turn refl (are.turns false) in
    let here : turn_in false words' ≡ 0 = turn_here false m.words 0 long in
    let other : turn_in true words' ≡ turn_in true m.words = word_other m.words 5 4 0 (λ e. omega arith) in
    stake_step m i s' words' m.parts log live are (word_other m.words 5 1 0 (λ e. omega arith)) (word_other m.words 5 2 0 (λ e. omega arith)) are.parts
    (of_two (λ b. IsTurn (has_turn b) (turn_in b words') (set stakes i s'))
    (subst (λ n. IsTurn (has_turn true) n (set stakes i s')) (sym other) (same_turn m i s' words' m.parts log live are true refl))
    (subst (λ n. IsTurn (has_turn false) n (set stakes i s')) (sym here) given))
    (of_two (λ b. (home_of b m.parts).out ≡ true → 0 < turn_in b words') (λ out. let old = are.homes true out in omega arith)
    (λ out. absurd (both_ways m.parts.file.out home out)))
    (of_two (λ b. All (λ z. (hold_of b z).front ≤ (home_of b m.parts).part.front) (set stakes i s')) (same_front m i s' words' m.parts log live are true refl)
    (All-set (λ (z : Stake). z.file.front ≤ part.front) stakes i s' (omega arith) (are.known false)))
    (same_pins m i s' words' m.parts log live are refl refl (λ free. free))
