-- The view of the first seat, the view of a seat that was joined in, and what each step makes of a view.
use Rattle.std.specs.Prelude.{ℕ, ◌+◌, ◌-◌, ◌^◌, ◌||◌, nat_lt, max, true, false, if◌then◌else◌, List, [], ◌∷◌, ◌++◌, length, sum_by}
use Rattle.go_word.specs.declared.edge.Edge.{Edge}
use Rattle.go_core.specs.declared.entry.Entry.{Entry}
use Rattle.go_core.specs.declared.view.View.{View}
use Rattle.go_core.specs.Frame.{Frame}
use Rattle.go_core.specs.View.{spent, unmoved, claimed, knowing_head, knowing_archived, knowing_durable, ending, stored, took, read_ahead, archiving}
use Rattle.go_core.specs.View.{flushing, raising, abandoning, sharing_out, shared_off, joining}
use Rattle.go_core.specs.Opening.{opening_view}
use Rattle.go_core.specs.Parts.{Mark}
use Rattle.go_rule.specs.declared.layout.Key.{Key}
use Rattle.go_rule.specs.declared.view.About.{About}
use Rattle.go_rule.specs.declared.view.Told.{Told}
use Rattle.go_rule.specs.declared.view.Stake.{Stake}
use Rattle.go_rule.specs.declared.view.SeatView.{SeatView}

-- how many entries a view has: those that it owes, those that it gave up, its own, and those of each seat that was joined in
abbrev pub entries_of : View → ℕ
entries_of v = length v.pending + length v.abandoned + length v.own + sum_by (λ (xs : List Entry). length xs) v.joined

-- what both were told: the longer list that one of them has seen, and both of these as lists that were heard
abbrev pub told_both : View → View → Told → Told → Told
told_both v w told other = record {
  seen = if nat_lt v.seen w.seen then other.seen else told.seen;
  heard = told.heard ++ (told.seen ∷ other.seen ∷ other.heard);
  passed = max told.passed other.passed;
  flagged = told.flagged || other.flagged;
}

module _ {P : Type 0} where
  -- the words of a ring: four shared ones, a turn for each shard and one for the file, and the slots
  abbrev pub frame_of : Key P → Frame
  frame_of key = record { slots = key.layout.ring; base = 5 + key.layout.shards; first = key.first }

  -- the entries before the first position
  abbrev pub opened_of : Key P → List Edge
  opened_of key = key.opened.value.items

  -- the ring's numbers as its seats know them, by the file's mark as the ring was made
  abbrev pub about_of : Mark → Key P → About
  about_of mark key = record {
    shards = key.layout.shards;
    first = key.first;
    vertices = key.layout.vertices;
    clock = mark.clock;
    faults = mark.faults;
    tells = mark.tells;
  }

  -- no part in the hand, no pin, and nothing known of a part
  abbrev pub no_stake : Stake P
  no_stake = record { notes = []; pins = []; stood = [] }

  -- the first seat moves both fronts and has the whole quota and lot
  abbrev pub first_view : Mark → Key P → SeatView P
  first_view mark key = record {
    about = about_of mark key;
    core = opening_view key.first true true;
    told = record { seen = opened_of key; heard = []; passed = 0; flagged = false };
    share = record { quota = key.quota; lot = 2 ^ 32 };
    stake = no_stake;
  }

  -- the view of a seat that was joined in
  abbrev pub spent_view : SeatView P
  spent_view = record {
    about = record { shards = 0; first = 0; vertices = 0; clock = 0; faults = 0; tells = false };
    core = spent;
    told = record { seen = []; heard = []; passed = 0; flagged = false };
    share = record { quota = 0; lot = 0 };
    stake = no_stake;
  }

  -- after a claim of the entries es from position p on
  abbrev pub claiming : ℕ → List Edge → SeatView P → SeatView P
  claiming p es d = record d { core = claimed p es d.core; share = record d.share { quota = d.share.quota - length es } }

  -- after a load of the log's length
  abbrev pub with_head : ℕ → SeatView P → SeatView P
  with_head n d = record d { core = knowing_head n d.core }

  -- after a word of a pending entry was stored
  abbrev pub with_stored : Entry → SeatView P → SeatView P
  with_stored x d = record d { core = stored x d.core }

  -- after a load of the archived front, of a log of which more may be seen then
  abbrev pub with_archived : ℕ → List Edge → SeatView P → SeatView P
  with_archived n seen d = record d { core = knowing_archived n d.core; told = record d.told { seen = seen } }

  -- after a load of the durable front
  abbrev pub with_durable : ℕ → List Edge → SeatView P → SeatView P
  with_durable n seen d = record d { core = knowing_durable n d.core; told = record d.told { seen = seen } }

  -- one by which all up to an end is seen
  abbrev pub with_ending : ℕ → ℕ → List Edge → SeatView P → SeatView P
  with_ending n end seen d = record d { core = ending n end d.core; told = record d.told { seen = seen } }

  -- after a word was read ahead of its turn, as so much was released
  abbrev pub with_ahead : ℕ → ℕ → ℕ → SeatView P → SeatView P
  with_ahead p word released d = record d { core = read_ahead p word d.core; told = record d.told { passed = released } }

  -- after a split, by which the new seat got so much of the quota and of the lot, and who moves both fronts gave the durable one away
  abbrev pub sharing : ℕ → ℕ → SeatView P → SeatView P
  sharing quota lot d = record d { core = sharing_out d.core; share = record { quota = d.share.quota - quota; lot = d.share.lot - lot } }

  -- what the new seat has: what the old one has seen, heard of no join, and knows of the parts
  abbrev pub shared : ℕ → ℕ → SeatView P → SeatView P
  shared quota lot d = record d {
    core = shared_off d.core;
    told = record d.told { heard = [] };
    share = record { quota = quota; lot = lot };
    stake = record { notes = []; pins = []; stood = d.stake.stood };
  }

  -- after another seat was joined in, which holds no part
  abbrev pub joining_seat : SeatView P → SeatView P → SeatView P
  joining_seat d e = record d {
    core = joining d.core e.core;
    told = told_both d.core e.core d.told e.told;
    share = record { quota = d.share.quota + e.share.quota; lot = d.share.lot + e.share.lot };
    stake = record { notes = d.stake.notes; pins = d.stake.pins ++ e.stake.pins; stood = d.stake.stood ++ e.stake.stood };
  }

  -- after a step that told it nothing
  abbrev pub with_unmoved : SeatView P → SeatView P
  with_unmoved d = record d { core = unmoved d.core }

  -- after a word was read in its turn and is that of position p
  abbrev pub with_took : ℕ → List Edge → SeatView P → SeatView P
  with_took p seen d = record d { core = took p d.core; told = record d.told { seen = seen } }

  -- after a store of the archived front, and of the durable one
  abbrev pub with_archiving : ℕ → SeatView P → SeatView P
  with_archiving front d = record d { core = archiving front d.core }

  abbrev pub with_flushing : ℕ → SeatView P → SeatView P
  with_flushing front d = record d { core = flushing front d.core }

  -- after a load of the flag
  abbrev pub with_flag : ℕ → SeatView P → SeatView P
  with_flag flag d = record d { core = unmoved d.core; told = record d.told { flagged = d.told.flagged || nat_lt 0 flag } }

  -- after a store of the flag
  abbrev pub with_raised : ℕ → SeatView P → SeatView P
  with_raised why d = record d { core = raising why d.core; told = record d.told { flagged = true } }

  -- after an entry was given up
  abbrev pub with_abandoned : Entry → SeatView P → SeatView P
  with_abandoned x d = record d { core = abandoning x d.core }
