-- What the rule says of the machine's parts lasts over the steps that tell nothing of them, and over the steps on the fronts.
use Rattle.std.proofs.Common.{◌≡◌, ℕ, zero, suc, ◌+◌, ◌^◌, ◌<◌, ◌≤◌, ◌≢◌, Bool, true, false, List, [], ◌∷◌, length, get_or, set, sym, refl, ap, ◌∙◌, ⊎_elim}
use Rattle.std.proofs.Common.{arith, subst}
use Rattle.std.specs.Prelude.{All, Some, slice_get}
use Rattle.std.proofs.lemmas.Bool.{cases_lt, true≢false}
use Rattle.std.proofs.lemmas.Option.{same_Some}
use Rattle.std.proofs.lemmas.List.{map-set, length-map, get_or_past, set-get_or}
use mathlib.Core.Option.{some}
use lib.ListN.{get_elem?}
use Rattle.go_word.specs.declared.edge.Edge.{Edge}
use Rattle.go_core.specs.declared.view.View.{View}
use Rattle.go_core.specs.declared.part.PartState.{PartState}
use Rattle.go_core.specs.declared.home.Parts.{Parts}
use Rattle.go_core.specs.declared.party.Party.{Party}
use Rattle.go_core.specs.declared.stake.Stake.{Stake}
use Rattle.go_core.specs.Frame.{Frame, archived_in, durable_in}
use Rattle.go_core.specs.View.{unfilled, spent, archiving, flushing}
use Rattle.go_core.specs.Rule.{owed, IsWritten, TiedBy}
use Rattle.go_core.specs.Parts.{Reaches, IsReached, IsShardPlace, IsFilePlace, ArePartsOf, IsTurn, ArePinned}
use Rattle.go_core.specs.Turns.{hold_of, home_of}
use Rattle.go_core.specs.Machine.{Machine, AreParted, IsTied, views_of, stakes_of, states_of, turn_in, absent, no_stake, party_at}
use Rattle.go_core.proofs.Lookups.{lookup-get_or, lookup-set}
use Rattle.go_core.proofs.Totals.{total-set, term-le}
use Rattle.go_core.proofs.Moved.{word_here, word_other}
use Rattle.go_core.proofs.Claims.{All-lookup}
use Rattle.go_core.proofs.PartLaws.{parts_onward, parts_moved, parts_still}

-- a party's view is among the views, and its stake among the stakes
pub view_at : (parties : List Party) (i : ℕ) → get_or (views_of parties) i spent ≡ (get_or parties i absent).view
view_at [] i = refl
view_at (p ∷ ps) zero = refl
view_at (p ∷ ps) (suc i) = view_at ps i

pub stake_at : (parties : List Party) (i : ℕ) → get_or (stakes_of parties) i no_stake ≡ (get_or parties i absent).stake
stake_at [] i = refl
stake_at (p ∷ ps) zero = refl
stake_at (p ∷ ps) (suc i) = stake_at ps i

-- a live party is in the list
pub live_within : (m : Machine) (j : ℕ) → (party_at m j).view.live ≡ true → j < length m.parties
live_within m j live =
    ⊎_elim (λ less. less)
    (λ (past : length m.parties ≤ j). absurd (true≢false (sym live ∙ ap (λ (p : Party). p.view.live) (get_or_past m.parties j absent past))))
    (cases_lt j (length m.parties))

-- and so are its view and its stake
pub party_there : (m : Machine) (i : ℕ) → (party_at m i).view.live ≡ true → get_elem? (views_of m.parties) i ≡ some (party_at m i).view
party_there m i live =
    let within = live_within m i live in
    let long : length (views_of m.parties) ≡ length m.parties = length-map m.parties (λ p. p.view) in
    lookup-get_or (views_of m.parties) i spent (omega arith) ∙ ap some (view_at m.parties i)

pub stake_there : (m : Machine) (i : ℕ) → (party_at m i).view.live ≡ true → get_elem? (stakes_of m.parties) i ≡ some (party_at m i).stake
stake_there m i live =
    let within = live_within m i live in
    let long : length (stakes_of m.parties) ≡ length m.parties = length-map m.parties (λ p. p.stake) in
    lookup-get_or (stakes_of m.parties) i no_stake (omega arith) ∙ ap some (stake_at m.parties i)

-- the views and the stakes after one party has others
pub views-set : (parties : List Party) (i : ℕ) (p : Party) → views_of (set parties i p) ≡ set (views_of parties) i p.view
views-set parties i p = map-set (λ q. q.view) parties i p

pub stakes-set : (parties : List Party) (i : ℕ) (p : Party) → stakes_of (set parties i p) ≡ set (stakes_of parties) i p.stake
stakes-set parties i p = map-set (λ q. q.stake) parties i p

-- a party that keeps its stake
pub stakes_kept : (parties : List Party) (i : ℕ) (w : View)
    → stakes_of (set parties i (record { view = w; stake = (get_or parties i absent).stake })) ≡ stakes_of parties
stakes_kept parties i w =
    stakes-set parties i (record { view = w; stake = (get_or parties i absent).stake }) ∙ ap (set (stakes_of parties) i) (sym (stake_at parties i))
    ∙ set-get_or (stakes_of parties) i no_stake

-- words of which no front and no turn changed
pub record Beside (words words' : List ℕ) : Type 0 where
  pub archived : archived_in words' ≡ archived_in words
  pub durable : durable_in words' ≡ durable_in words
  pub turns : (part : Bool) → turn_in part words' ≡ turn_in part words

-- a turn that isn't written stays
pub turn_other : (part : Bool) (words : List ℕ) (k n : ℕ) → 4 ≢ k → 5 ≢ k → turn_in part (set words k n) ≡ turn_in part words
turn_other true words k n four five = word_other words k 4 n four
turn_other false words k n four five = word_other words k 5 n five

-- no word was written, or one that is neither a front nor a turn
pub beside_same : (words : List ℕ) → Beside words words
beside_same words = record { archived = refl; durable = refl; turns = λ part. refl }

pub beside_set : (words : List ℕ) (k n : ℕ) → 1 ≢ k → 2 ≢ k → 4 ≢ k → 5 ≢ k → Beside words (set words k n)
beside_set words k n one two four five =
    record { archived = word_other words k 1 n one; durable = word_other words k 2 n two; turns = λ part. turn_other part words k n four five }

-- what is written stays written where a party owes no more
pub written_less : (log log' : List Edge) (views : List View) (i : ℕ) (v w : View) → get_elem? views i ≡ some v → length log ≤ length log'
    → ((p : ℕ) → p < length log → unfilled p w ≤ unfilled p v) → (p : ℕ) → IsWritten log views p → IsWritten log' (set views i w) p
written_less log log' views i v w there longer less p written =
    let within = written.within in
    let filled = written.filled in
    let change : owed (set views i w) p + unfilled p v ≡ owed views p + unfilled p w = total-set (unfilled p) views i v w there in
    let part : unfilled p v ≤ owed views p = term-le (unfilled p) views i v there in
    let small = less p within in
    record { within = omega arith; filled = omega arith }

-- a party that moves the archived front did so, and took as much, or more
abbrev pub GoesOn : View → View → Type 0
GoesOn v w = w.archives ≡ true → (v.archives ≡ true) × (v.taken ≤ w.taken)

-- so what the one took who archives bounds what it bounded
pub reached_set : (views : List View) (i : ℕ) (v w : View) → get_elem? views i ≡ some v → GoesOn v w → (front : ℕ) → IsReached views front
    → IsReached (set views i w) front
reached_set views i v w there on front reached j u at_j role =
    ⊎_elim
    (λ here.
    let mine = on (ap (λ (z : View). z.archives) here.1 ∙ role) in
    let old = reached i v there mine.0 in
    let more = mine.1 in
    let same : w.taken ≡ u.taken = ap (λ z. z.taken) here.1 in
    omega arith)
    (λ other. reached j u other.1 role) (lookup-set views i j w u at_j)

-- a part reaches no further than a longer log
reaches_longer : (log log' : List Edge) → length log ≤ length log' → (s : PartState) → Reaches s log → Reaches s log'
reaches_longer log log' longer s reaches = omega arith

-- other parties: the words and the parts are as they were
pub parties_parted : (m : Machine) (parties' : List Party) (stakes' : List Stake) (log : List Edge) → stakes_of parties' ≡ stakes'
    → ((p : ℕ) → IsWritten log (views_of m.parties) p → IsWritten log (views_of parties') p)
    → ((front : ℕ) → IsReached (views_of m.parties) front → IsReached (views_of parties') front)
    → ((part : Bool) → IsTurn (λ s. (hold_of part s).turn) (turn_in part m.words) stakes')
    → ((part : Bool) → All (λ s. (hold_of part s).front ≤ (home_of part m.parts).part.front) stakes')
    → ArePinned (λ (s : Stake). s.pins) (λ s. s.put) (λ s. s.shard.turn) m.parts.shard.part.pins stakes' → AreParted m log
    → AreParted (record m { parties = parties' }) log
parties_parted m parties' stakes' log stakes written reached turns known pinned are =
    let st = λ (s : PartState). s in
    record {
      two = are.two;
      parts = parts_onward st Reaches m.frame log log m.words (views_of m.parties) (views_of parties') (states_of m.parts) (λ s reaches. reaches)
          written reached are.parts;
      turns = λ part. subst (IsTurn (λ s. (hold_of part s).turn) (turn_in part m.words)) (sym stakes) (turns part);
      homes = are.homes;
      known = λ part. subst (All (λ s. (hold_of part s).front ≤ (home_of part m.parts).part.front)) (sym stakes) (known part);
      pinned = subst (ArePinned (λ (s : Stake). s.pins) (λ s. s.put) (λ s. s.shard.turn) m.parts.shard.part.pins) (sym stakes) pinned;
    }

-- a step that tells nothing of the parts, over which they stand by the words that are then
parted_on : (m : Machine) (words' : List ℕ) (parties' : List Party) (log log' : List Edge) → ((part : Bool) → turn_in part words' ≡ turn_in part m.words)
    → stakes_of parties' ≡ stakes_of m.parties → length log ≤ length log'
    → ((p : ℕ) → IsWritten log (views_of m.parties) p → IsWritten log' (views_of parties') p)
    → ((front : ℕ) → IsReached (views_of m.parties) front → IsReached (views_of parties') front)
    → ArePartsOf (λ (s : PartState). s) Reaches m.frame log words' (views_of m.parties) (states_of m.parts) → AreParted m log
    → AreParted (record m { words = words'; parties = parties' }) log'
parted_on m words' parties' log log' turns stakes longer written reached parts are =
    record {
      two = are.two;
      parts = parts_onward (λ (s : PartState). s) Reaches m.frame log log' words' (views_of m.parties) (views_of parties') (states_of m.parts)
          (reaches_longer log log' longer) written reached parts;
      turns = λ part.
          subst (λ n. IsTurn (λ s. (hold_of part s).turn) n (stakes_of parties')) (sym (turns part))
          (subst (λ ss. IsTurn (λ s. (hold_of part s).turn) (turn_in part m.words) ss) (sym stakes) (are.turns part));
      homes = λ part out. subst (λ n. 0 < n) (sym (turns part)) (are.homes part out);
      known = λ part. subst (All (λ s. (hold_of part s).front ≤ (home_of part m.parts).part.front)) (sym stakes) (are.known part);
      pinned = subst (ArePinned (λ s. s.pins) (λ s. s.put) (λ s. s.shard.turn) m.parts.shard.part.pins) (sym stakes) are.pinned;
    }

-- so of one party that keeps its stake and owes no more
party_parted : (m : Machine) (i : ℕ) (w : View) (words' : List ℕ) (log log' : List Edge) → (party_at m i).view.live ≡ true
    → ((part : Bool) → turn_in part words' ≡ turn_in part m.words) → length log ≤ length log'
    → ((p : ℕ) → p < length log → unfilled p w ≤ unfilled p (party_at m i).view) → GoesOn (party_at m i).view w
    → ArePartsOf (λ (s : PartState). s) Reaches m.frame log words' (views_of m.parties) (states_of m.parts) → AreParted m log
    → AreParted (record m { words = words'; parties = set m.parties i (record { view = w; stake = (party_at m i).stake }) }) log'
party_parted m i w words' log log' live turns longer less on parts are =
    let p : Party = record { view = w; stake = (party_at m i).stake } in
    let same = views-set m.parties i p in
    let there = party_there m i live in
    parted_on m words' (set m.parties i p) log log' turns (stakes_kept m.parties i w) longer
    (λ q written. subst (λ vs. IsWritten log' vs q) (sym same)
    (written_less log log' (views_of m.parties) i (party_at m i).view w there longer less q written))
    (λ front reached. subst (λ vs. IsReached vs front) (sym same)
    (reached_set (views_of m.parties) i (party_at m i).view w there on front reached)) parts are

-- a step of one party that keeps its stake and owes no more: where it keeps the tie of words and views, it keeps the machine tied
pub kept : (m : Machine) (i : ℕ) (w : View) (words' : List ℕ) (log log' : List Edge) → (party_at m i).view.live ≡ true → Beside m.words words'
    → length log ≤ length log' → ((p : ℕ) → p < length log → unfilled p w ≤ unfilled p (party_at m i).view) → GoesOn (party_at m i).view w
    → TiedBy m.frame log' words' (set (views_of m.parties) i w) → length log' ≤ 2 ^ 48 → IsTied m log
    → IsTied (record m { words = words'; parties = set m.parties i (record { view = w; stake = (party_at m i).stake }) }) log'
kept m i w words' log log' live beside longer less on tied fits old =
    record {
      tied = subst (TiedBy m.frame log' words') (sym (views-set m.parties i (record { view = w; stake = (party_at m i).stake }))) tied;
      parted = party_parted m i w words' log log' live beside.turns longer less on
          (parts_still (λ (s : PartState). s) Reaches m.frame log m.words words' (views_of m.parties) (states_of m.parts) beside.archived beside.durable
          old.parted.parts) old.parted;
      fits = fits;
    }

-- the only shard is the first part, and the file the second
shard_only : (f : Frame) (parts : Parts) (place : ℕ) (part : PartState) → f.base ≡ 6 → slice_get (states_of parts) place ≡ Some part → IsShardPlace f place
    → parts.shard.part ≡ part
shard_only f parts zero part two there shard = same_Some parts.shard.part part there
shard_only f parts (suc place) part two there shard = absurd (omega arith)

file_only : (f : Frame) (parts : Parts) (place : ℕ) (part : PartState) → f.base ≡ 6 → slice_get (states_of parts) place ≡ Some part → IsFilePlace f place
    → parts.file.part ≡ part
file_only f parts zero part two there file = absurd (omega arith)
file_only f parts (suc zero) part two there file = same_Some parts.file.part part there
file_only f parts (suc (suc place)) part two there file = absurd (omega arith)

-- the archived front was stored, over what the party knows the shard to have
pub archived_parted : (m : Machine) (i front : ℕ) (log : List Edge) → (party_at m i).view.live ≡ true → 1 < length m.words → archived_in m.words ≤ front
    → front ≤ (party_at m i).stake.shard.front → AreParted m log
    → AreParted (record m {
      words = set m.words 1 front;
      parties = set m.parties i
          (record { view = archiving front (party_at m i).view; stake = (party_at m i).stake });
    }) log
archived_parted m i front log live some' onward stood are =
    let words' = set m.words 1 front in
    let known : (party_at m i).stake.shard.front ≤ m.parts.shard.part.front = All-lookup (λ s. (hold_of true s).front ≤ m.parts.shard.part.front)
    (stakes_of m.parties) i (party_at m i).stake (are.known true) (stake_there m i live) in
    let archived : archived_in words' ≡ front = word_here m.words 1 front some' in
    let durable : durable_in words' ≡ durable_in m.words = word_other m.words 1 2 front (λ e. omega arith) in
    party_parted m i (archiving front (party_at m i).view) words' log log live
    (λ part. turn_other part m.words 1 front (λ e. omega arith) (λ e. omega arith)) (omega arith) (λ p within. omega arith) (λ role. (role, omega arith))
    (parts_moved (λ (s : PartState). s) Reaches m.frame log m.words words' (views_of m.parties) (states_of m.parts) (omega arith)
    (λ place part there shard. subst (λ (s : PartState). archived_in words' ≤ s.front) (shard_only m.frame m.parts place part are.two there shard)
    (omega arith))
    (λ place part there file. subst (λ n. n ≤ part.front) (sym durable) (are.parts.file place part there file)) are.parts) are

-- the durable front was stored, over what the party knows the file to have
pub durable_parted : (m : Machine) (i front : ℕ) (log : List Edge) → (party_at m i).view.live ≡ true → 2 < length m.words
    → front ≤ (party_at m i).stake.file.front → AreParted m log
    → AreParted (record m {
      words = set m.words 2 front;
      parties = set m.parties i
          (record { view = flushing front (party_at m i).view; stake = (party_at m i).stake });
    }) log
durable_parted m i front log live some' stood are =
    let words' = set m.words 2 front in
    let known : (party_at m i).stake.file.front ≤ m.parts.file.part.front = All-lookup (λ s. (hold_of false s).front ≤ m.parts.file.part.front)
    (stakes_of m.parties) i (party_at m i).stake (are.known false) (stake_there m i live) in
    let durable : durable_in words' ≡ front = word_here m.words 2 front some' in
    let archived : archived_in words' ≡ archived_in m.words = word_other m.words 2 1 front (λ e. omega arith) in
    party_parted m i (flushing front (party_at m i).view) words' log log live
    (λ part. turn_other part m.words 2 front (λ e. omega arith) (λ e. omega arith)) (omega arith) (λ p within. omega arith) (λ role. (role, omega arith))
    (parts_moved (λ (s : PartState). s) Reaches m.frame log m.words words' (views_of m.parties) (states_of m.parts) (omega arith)
    (λ place part there shard. subst (λ n. n ≤ part.front) (sym archived) (are.parts.shards place part there shard).archived_to)
    (λ place part there file. subst (λ (s : PartState). durable_in words' ≤ s.front) (file_only m.frame m.parts place part are.two there file) (omega arith))
    are.parts) are
