-- When a party may do an act: the conditions on the words, its view and its stake.
use Rattle.std.specs.Prelude.{◌≡◌, ◌⊎◌, ℕ, ◌+◌, ◌^◌, ◌<◌, ◌≤◌, ◌==◌, ◌&&◌, Bool, true, false, min, List, [], length, All}
use Rattle.go_word.specs.declared.edge.Edge.{Edge}
use Rattle.go_word.specs.Word.{IsStorable}
use Rattle.go_core.specs.declared.view.View.{View}
use Rattle.go_core.specs.declared.part.PartState.{PartState}
use Rattle.go_core.specs.declared.home.Parts.{Parts}
use Rattle.go_core.specs.declared.stake.Stake.{Stake}
use Rattle.go_core.specs.Frame.{Frame, head_in, archived_in, durable_in}
use Rattle.go_core.specs.Pins.{owns_name}
use Rattle.go_core.specs.Parts.{reach_of, IsSuccessor, IsFileSuccessor}
use Rattle.go_core.specs.Turns.{hold_of, home_of}

-- edges may be claimed: one to 64 that words can hold, with room for them in the log
pub record CanClaim (words : List ℕ) (edges : List Edge) : Type 0 where
  pub some : 1 ≤ length edges
  pub few : length edges ≤ 64
  pub storable : All IsStorable edges
  pub room : head_in words + length edges ≤ 2 ^ 48

-- the slot of a position is free, by the fronts that the party knows
abbrev pub HasRoom : Frame → View → ℕ → Type 0
HasRoom f v at = at < f.slots + min v.archived v.durable

-- a worker may read a word in its turn: at or past its front, and at most one past what it took
pub record CanTake (words : List ℕ) (v : View) (at : ℕ) : Type 0 where
  pub role : ((v.archives ≡ true) × (archived_in words ≤ at)) ⊎ ((v.flushes ≡ true) × (durable_in words ≤ at))
  pub next : at ≤ v.taken

-- the archived front may be moved: by its worker, over what that took
pub record CanArchive (words : List ℕ) (v : View) (front : ℕ) : Type 0 where
  pub role : v.archives ≡ true
  pub onward : archived_in words ≤ front
  pub taken : front ≤ v.taken

-- the durable front may be moved: by its worker, over what that took
pub record CanFlush (words : List ℕ) (v : View) (front : ℕ) : Type 0 where
  pub role : v.flushes ≡ true
  pub onward : durable_in words ≤ front
  pub taken : front ≤ v.taken

-- a party knows that a part stood at a front or above it
abbrev pub HasStood : Bool → Stake → ℕ → Type 0
HasStood part stake front = front ≤ (hold_of part stake).front

-- a word may be read ahead of its turn: within the window that the party knows, and below the length that it knows
pub record CanReadAhead (slots : ℕ) (v : View) (at : ℕ) : Type 0 where
  pub from : min v.archived v.durable ≤ at
  pub to : at < min v.archived v.durable + slots
  pub within : at < v.head

-- the turn of a part may be asked for: there are two parts, and the party has not taken this one out
pub record CanTakeTurn (parts : Parts) (stake : Stake) (part : ℕ) : Type 0 where
  pub one : part < 2
  pub not_held : ((hold_of (part == 0) stake).turn && (home_of (part == 0) parts).out) ≡ false

-- the party has the turn of a part that is at home: it may take it out, or give the turn back
pub record HasAtHome (parts : Parts) (stake : Stake) (part : ℕ) : Type 0 where
  pub one : part < 2
  pub turn : (hold_of (part == 0) stake).turn ≡ true
  pub at_home : (home_of (part == 0) parts).out ≡ false

-- the party has taken a part out
pub record HasOut (parts : Parts) (stake : Stake) (part : ℕ) : Type 0 where
  pub one : part < 2
  pub turn : (hold_of (part == 0) stake).turn ≡ true
  pub out : (home_of (part == 0) parts).out ≡ true

-- a part may be given back as another
abbrev pub IsLawful : Bool → View → Stake → PartState → PartState → Type 0
IsLawful true v stake old new = IsSuccessor (reach_of v) v.archived (λ id. owns_name id stake.pins stake.put) old new
IsLawful false v stake old new = IsFileSuccessor v.taken old new

-- why the flag may be raised: 1 is the disk, 2 is want of memory
abbrev pub IsCause : ℕ → Type 0
IsCause why = (why ≡ 1) ⊎ (why ≡ 2)

-- another party may be joined in that takes part and owes no word
pub record CanJoin (other : View) : Type 0 where
  pub live : other.live ≡ true
  pub pending : other.pending ≡ []

-- it moves no front
pub record IsSession (other : View) : Type 0 where
  pub archives : other.archives ≡ false
  pub flushes : other.flushes ≡ false

-- and has no turn
pub record HasNoTurn (stake : Stake) : Type 0 where
  pub shard : stake.shard.turn ≡ false
  pub file : stake.file.turn ≡ false
