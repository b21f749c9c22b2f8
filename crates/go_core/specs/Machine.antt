-- The machine without threads: its state, how it is tied to a log, and each act's row.
use Rattle.std.specs.Prelude.{◌≡◌, ◌≢◌, ◌⊎◌, ℕ, ◌+◌, ◌-◌, ◌^◌, ◌<◌, ◌≤◌, ◌==◌, max, Bool, true, false, slice_index, if◌then◌else◌, List, [], ◌∷◌, ◌++◌, map}
use Rattle.std.specs.Prelude.{length, set, slice_index_or, All, find, Option, Some, None}
use Rattle.go_word.specs.declared.edge.Edge.{Edge}
use Rattle.go_word.specs.Word.{IsStorable, word, is_matched}
use Rattle.go_core.specs.declared.act.Act.{Act}
use Rattle.go_core.specs.declared.act.Act.TheVariants.{Claim, LoadHead, LoadArchived, LoadDurable, StoreWord, LoadOrdered, LoadTentative, StoreArchived}
use Rattle.go_core.specs.declared.act.Act.TheVariants.{StoreDurable, TakeTurn, PartOut, PartIn, GiveTurn, LoadFlag, StoreFlag, Split, Join}
use Rattle.go_core.specs.declared.act.Out.{Out}
use Rattle.go_core.specs.declared.act.Out.TheVariants.{Number, Word, Done, Refused}
use Rattle.go_core.specs.declared.entry.Entry.{Entry}
use Rattle.go_core.specs.declared.view.View.{View}
use Rattle.go_core.specs.declared.home.Home.{Home}
use Rattle.go_core.specs.declared.home.Parts.{Parts}
use Rattle.go_core.specs.declared.part.PartState.{PartState}
use Rattle.go_core.specs.declared.stake.Stake.{Stake}
use Rattle.go_core.specs.declared.party.Party.{Party}
use Rattle.go_core.specs.Frame.{Frame, place, slot, head_in, archived_in, durable_in, flag_in}
use Rattle.go_core.specs.View.{stands_at, spent, unmoved, claimed, knowing_head, knowing_archived, knowing_durable, stored, took, read_ahead, archiving}
use Rattle.go_core.specs.View.{flushing, raising, split_off, joining}
use Rattle.go_core.specs.Rule.{TiedBy}
use Rattle.go_core.specs.Parts.{Reaches, ArePartsOf, IsTurn, ArePinned}
use Rattle.go_core.specs.Turns.{hold_of, home_of, with_home, turn_place, having_turn, putting, giving}
use Rattle.go_core.specs.Acts.{CanClaim, HasRoom, CanTake, CanReadAhead, CanArchive, CanFlush, HasStood, CanTakeTurn, HasAtHome, HasOut, IsLawful, IsCause}
use Rattle.go_core.specs.Acts.{CanJoin, IsSession, HasNoTurn}

-- the words, the parties and the two parts, within a frame
pub record Machine : Type 0 where
  pub frame : Frame
  pub words : List ℕ
  pub parties : List Party
  pub parts : Parts

-- what the parties know of the log
abbrev pub views_of : List Party → List View
views_of parties = map (λ p. p.view) parties

-- what they know of the parts
abbrev pub stakes_of : List Party → List Stake
stakes_of parties = map (λ p. p.stake) parties

-- the parts by their places
abbrev pub states_of : Parts → List PartState
states_of parts = parts.shard.part ∷ parts.file.part ∷ []

-- the word of a part's turn
abbrev pub turn_in : Bool → List ℕ → ℕ
turn_in part words = slice_index words (turn_place part)

-- what the rule says of the parts: what they hold, whose turns they are, and that what parties know of them lags behind
pub record AreParted (m : Machine) (log : List Edge) : Type 0 where
  pub two : m.frame.base ≡ 6
  pub parts : ArePartsOf (λ (s : PartState). s) Reaches m.frame log m.words (views_of m.parties) (states_of m.parts)
  pub turns : (part : Bool) → IsTurn (λ s. (hold_of part s).turn) (turn_in part m.words) (stakes_of m.parties)
  pub homes : (part : Bool) → (home_of part m.parts).out ≡ true → 0 < turn_in part m.words
  pub known : (part : Bool) → All (λ s. (hold_of part s).front ≤ (home_of part m.parts).part.front) (stakes_of m.parties)
  pub pinned : ArePinned (λ s. s.pins) (λ s. s.put) (λ s. s.shard.turn) m.parts.shard.part.pins (stakes_of m.parties)

-- the machine is tied to a log, which has room for as many positions as a number of 48 bits
pub record IsTied (m : Machine) (log : List Edge) : Type 0 where
  pub tied : TiedBy m.frame log m.words (views_of m.parties)
  pub parted : AreParted m log
  pub fits : length log ≤ 2 ^ 48

-- the stake of a party that takes no part
abbrev pub no_stake : Stake
no_stake = record { pins = []; put = []; shard = record { front = 0; turn = false }; file = record { front = 0; turn = false } }

-- a party that takes no part
abbrev pub absent : Party
absent = record { view = spent; stake = no_stake }

-- the stake of a party that is split off: it knows the parts, and has no pin and no turn
abbrev pub stake_off : Stake → Stake
stake_off s = record { pins = []; put = []; shard = record { front = s.shard.front; turn = false }; file = record { front = s.file.front; turn = false } }

-- the stake of two parties that were joined
abbrev pub stakes_joined : Stake → Stake → Stake
stakes_joined s other =
    record {
      pins = s.pins ++ other.pins;
      put = s.put;
      shard = record { front = max s.shard.front other.shard.front; turn = s.shard.turn };
      file = record { front = max s.file.front other.file.front; turn = s.file.turn };
    }

-- the machine's frame: its two turns follow the four words
abbrev pub frame_of : ℕ → ℕ → Frame
frame_of slots first = record { slots = slots; base = 6; first = first }

-- the machine of these parts
abbrev pub machine_of : ℕ → ℕ → List ℕ → List Party → Parts → Machine
machine_of slots first words parties parts = record { frame = frame_of slots first; words = words; parties = parties; parts = parts }

-- the party of a number
abbrev pub party_at : Machine → ℕ → Party
party_at m i = slice_index_or m.parties i absent

-- there is a party of this number, and it takes part
pub record IsLiveAt (parties : List Party) (i : ℕ) : Type 0 where
  pub within : i < length parties
  pub live : (slice_index_or parties i absent).view.live ≡ true

-- the machine with another view of one party
abbrev pub with_view : ℕ → View → Machine → Machine
with_view i w m = record m { parties = set m.parties i (record { view = w; stake = (party_at m i).stake }) }

-- the machine with another stake of one party, to which the step told nothing of the log
abbrev pub with_stake : ℕ → Stake → Machine → Machine
with_stake i s m = record m { parties = set m.parties i (record { view = unmoved (party_at m i).view; stake = s }) }

-- the machine with another home of one part
abbrev pub with_part : Bool → Home → Machine → Machine
with_part part home m = record m { parts = with_home part home m.parts }

-- the machine with another word
abbrev pub with_word : ℕ → ℕ → Machine → Machine
with_word k n m = record m { words = set m.words k n }

-- an act whose condition holds is answered and makes this of the machine; else it is refused, and nothing changes
abbrev pub Does : Type 0 → Out → Machine → Machine → Out → Machine → Type 0
Does condition answer after before out now = (condition × (out ≡ answer) × (now ≡ after)) ⊎ ((condition → ⊥) × (out ≡ Refused) × (now ≡ before))

-- a store of a word, by the pending entry that stands at its position
abbrev pub Stores : Machine → ℕ → ℕ → Option Entry → Out → Machine → Type 0
Stores m i at None out now = (out ≡ Refused) × (now ≡ m)
Stores m i at (Some x) out now =
    Does (((party_at m i).view.live ≡ true) × HasRoom m.frame (party_at m i).view at) Done
    (with_word (place m.frame at) (word m.frame.slots at x.edge) (with_view i (stored x (party_at m i).view) m)) m out now

-- the row of an act: when it is done, what it is answered and what it makes of the machine
abbrev pub Row : Machine → ℕ → Act → Out → Machine → Type 0
Row m i (Claim edges) out now =
    let v = (party_at m i).view in
    let head = head_in m.words in
    Does ((v.live ≡ true) × CanClaim m.words edges) (Number head) (with_word 0 (head + length edges) (with_view i (claimed head edges v) m)) m out now
Row m i LoadHead out now =
    let v = (party_at m i).view in
    Does (v.live ≡ true) (Number (head_in m.words)) (with_view i (knowing_head (head_in m.words) v) m) m out now
Row m i LoadArchived out now =
    let v = (party_at m i).view in
    Does (v.live ≡ true) (Number (archived_in m.words)) (with_view i (knowing_archived (archived_in m.words) v) m) m out now
Row m i LoadDurable out now =
    let v = (party_at m i).view in
    Does (v.live ≡ true) (Number (durable_in m.words)) (with_view i (knowing_durable (durable_in m.words) v) m) m out now
Row m i (StoreWord at) out now = Stores m i at (find (stands_at at) (party_at m i).view.pending) out now
Row m i (LoadOrdered at) out now =
    let v = (party_at m i).view in
    let x = slot m.frame m.words at in
    Does ((v.live ≡ true) × CanTake m.words v at) (Word x) (with_view i (if is_matched m.frame.slots at x then took at v else unmoved v) m) m out now
Row m i (LoadTentative at) out now =
    let v = (party_at m i).view in
    let x = slot m.frame m.words at in
    Does ((v.live ≡ true) × CanReadAhead m.frame.slots v at) (Word x) (with_view i (read_ahead at x v) m) m out now
Row m i (StoreArchived front) out now =
    let v = (party_at m i).view in
    Does ((v.live ≡ true) × CanArchive m.words v front × HasStood true (party_at m i).stake front) Done
    (with_word 1 front (with_view i (archiving front v) m)) m out now
Row m i (StoreDurable front) out now =
    let v = (party_at m i).view in
    Does ((v.live ≡ true) × CanFlush m.words v front × HasStood false (party_at m i).stake front) Done
    (with_word 2 front (with_view i (flushing front v) m)) m out now
Row m i (TakeTurn part) out now =
    let p = party_at m i in
    let b = part == 0 in
    let turn = turn_in b m.words in
    Does ((p.view.live ≡ true) × CanTakeTurn m.parts p.stake part) (Number turn)
    (if turn == 0 then with_word (turn_place b) 1 (with_stake i (having_turn b p.stake) m) else with_view i (unmoved p.view) m) m out now
Row m i (PartOut part) out now =
    let p = party_at m i in
    let b = part == 0 in
    Does ((p.view.live ≡ true) × HasAtHome m.parts p.stake part) Done
    (with_part b (record { part = (home_of b m.parts).part; out = true }) (with_view i (unmoved p.view) m)) m out now
Row m i (PartIn part state) out now =
    let p = party_at m i in
    let b = part == 0 in
    Does ((p.view.live ≡ true) × HasOut m.parts p.stake part × IsLawful b p.view p.stake (home_of b m.parts).part state) Done
    (with_part b (record { part = state; out = false }) (with_stake i (putting b (home_of b m.parts).part.pins state.pins p.stake) m)) m out now
Row m i (GiveTurn part) out now =
    let p = party_at m i in
    let b = part == 0 in
    Does ((p.view.live ≡ true) × HasAtHome m.parts p.stake part) Done
    (with_word (turn_place b) 0 (with_stake i (giving b (home_of b m.parts).part p.stake) m)) m out now
Row m i LoadFlag out now =
    let v = (party_at m i).view in
    Does (v.live ≡ true) (Number (flag_in m.words)) (with_view i (unmoved v) m) m out now
Row m i (StoreFlag why) out now =
    let v = (party_at m i).view in
    Does ((v.live ≡ true) × IsCause why) Done (with_word 3 why (with_view i (raising why v) m)) m out now
Row m i Split out now =
    let v = (party_at m i).view in
    let new : Party = record { view = split_off v; stake = stake_off (party_at m i).stake } in
    Does ((v.live ≡ true) × (length m.parties < 2 ^ 32 - 1)) (Number (length m.parties))
    (record m { parties = (with_view i (unmoved v) m).parties ++ new ∷ [] }) m out now
Row m i (Join j) out now =
    let p = party_at m i in
    let other = party_at m j in
    let both : Party = record { view = joining p.view other.view; stake = stakes_joined p.stake other.stake } in
    Does ((p.view.live ≡ true) × (j ≢ i) × CanJoin other.view × IsSession other.view × HasNoTurn other.stake) Done
    (record m { parties = set (set m.parties i both) j absent }) m out now

-- the entries by which an act makes the log longer
abbrev pub claims : Act → Out → List Edge
claims (Claim edges) (Number n) = edges
claims a out = []

-- what a machine keeps: there is a log that it is tied to, and no more slots than positions
pub record Stands (m : Machine) : Type 0 where
  pub few : m.frame.slots ≤ 2 ^ 48
  pub log : List Edge
  pub tied : IsTied m log

-- what the steps of a party rely on
pub record IsReady (m : Machine) (i : ℕ) : Type 0 where
  pub some : 0 < m.frame.slots
  pub few : m.frame.slots ≤ 2 ^ 48
  pub words : length m.words ≡ 6 + m.frame.slots
  pub taken : (party_at m i).view.taken ≤ 2 ^ 48
  pub storable : All (λ x. IsStorable x.edge) (party_at m i).view.pending
