-- How a machine begins: nothing is claimed past the first position, and no slot matches its own.
use Rattle.std.specs.Prelude.{◌≡◌, ℕ, ◌+◌, ◌<◌, ◌≤◌, Bool, true, false, List, [], length, slice_index}
use Rattle.go_word.specs.Word.{blank_word}
use Rattle.go_core.specs.declared.act.Role.{Role}
use Rattle.go_core.specs.declared.act.Role.TheVariants.{Session, Archiver, Flusher}
use Rattle.go_core.specs.declared.view.View.{View}
use Rattle.go_core.specs.declared.party.Party.{Party}
use Rattle.go_core.specs.declared.home.Home.{Home}
use Rattle.go_core.specs.declared.home.Parts.{Parts}
use Rattle.go_core.specs.View.{spent}
use Rattle.go_core.specs.Frame.{Frame, slot, head_in, archived_in, durable_in, flag_in}

-- the words at the beginning: the log and both fronts end at the first position, no flag is raised, no turn is taken, and each slot
-- waits for the position that it serves
pub record AreOpening (f : Frame) (words : List ℕ) : Type 0 where
  pub all_words : length words ≡ f.base + f.slots
  pub head : head_in words ≡ f.first
  pub archived : archived_in words ≡ f.first
  pub durable : durable_in words ≡ f.first
  pub flag : flag_in words ≡ 0
  pub turns : (k : ℕ) → 4 ≤ k → k < f.base → slice_index words k ≡ 0
  pub blanks : (p : ℕ) → f.first ≤ p → p < f.first + f.slots → slot f words p ≡ blank_word f.slots p

-- a view that has seen, taken and knows just so many entries
abbrev pub knowing_all : ℕ → View → View
knowing_all n v = record v { seen = n; taken = n; head = n; archived = n; durable = n; marked = n }

-- the view of a party at the beginning
abbrev pub opening_view : ℕ → Bool → Bool → View
opening_view first archives flushes = record (knowing_all first spent) { live = true; archives = archives; flushes = flushes }

-- a role moves the archived front
abbrev pub archives_as : Role → Bool
archives_as Session = false
archives_as Archiver = true
archives_as Flusher = false

-- a role moves the durable front
abbrev pub flushes_as : Role → Bool
flushes_as Session = false
flushes_as Archiver = false
flushes_as Flusher = true

-- a party of a role at the beginning
abbrev pub opening_party : ℕ → Role → Party
opening_party first role = record {
  view = opening_view first (archives_as role) (flushes_as role);
  stake = record { pins = []; put = []; shard = record { front = first; turn = false }; file = record { front = first; turn = false } };
}

-- the home of a part at the beginning: it reaches to the first position
abbrev pub opening_home : ℕ → Home
opening_home first = record { part = record { front = first; cut = 0; pins = [] }; out = false }

-- both parts at the beginning
abbrev pub opening_parts : ℕ → Parts
opening_parts first = record { shard = opening_home first; file = opening_home first }
