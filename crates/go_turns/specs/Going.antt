-- What a seat has after calls in which it gave back each part that it took.
use Rattle.std.specs.Prelude.{◌≡◌, ◌↔◌, ℕ, ◌≤◌, true, false, [], Contains}
use mathlib.Core.Option.{none}
use Rattle.atomic_table.specs.Table.{Me, step}
use Rattle.go_word.specs.declared.pin.Pin.{Pin}
use Rattle.go_core.specs.Frame.{Frame}
use Rattle.go_core.specs.Parts.{IsShardPlace}
use Rattle.go_rule.specs.declared.view.SeatView.{SeatView}
use Rattle.go_rule.specs.Rule.{Begins, pins_at}
use Rattle.go_rule.specs.Steps.{LoadsFlag}

module _ {P : Type 0} where
  -- what such calls leave of a seat's view: all but what it knows of the log, of the flag and of the parts; its pins are told apart
  abbrev pub but_known : SeatView P → SeatView P
  but_known d = record d {
    core = record d.core { seen = 0; taken = 0; head = 0; archived = 0; durable = 0; loads = []; marked = 0; fresh = false };
    told = record d.told { seen = []; passed = 0; flagged = false };
    stake = record { notes = d.stake.notes; pins = []; stood = [] };
  }

  -- a seat knows no less of the log, of its length and fronts, and of the flag
  pub record KnowsMore (d e : SeatView P) : Type 0 where
    pub begins : Begins e.told.seen d.told.seen
    pub seen : d.core.seen ≤ e.core.seen
    pub taken : d.core.taken ≤ e.core.taken
    pub head : d.core.head ≤ e.core.head
    pub archived : d.core.archived ≤ e.core.archived
    pub durable : d.core.durable ≤ e.core.durable
    pub passed : d.told.passed ≤ e.told.passed
    pub flagged : d.told.flagged ≡ true → e.told.flagged ≡ true

  -- a seat's pins in shards are the ones that it had
  abbrev pub SamePins : Frame → SeatView P → SeatView P → Type 0
  SamePins f d e = (place : ℕ) → IsShardPlace f place → (pin : Pin) → Contains (pins_at place e) pin ↔ Contains (pins_at place d) pin

  -- a seat knows no less; the parts in its hand, its pins, its shares, its entries and the causes that it raised are as they were
  pub record HasGoneOn (f : Frame) (d e : SeatView P) : Type 0 where
    pub knows : KnowsMore d e
    pub rest : but_known e ≡ but_known d
    pub pins : SamePins f d e

  -- and a load of the flag on the way gave this
  pub record IsFlagged {S : Type 0} (f : Frame) (slots n : ℕ) (me now : Me S (SeatView P)) : Type 0 where
    pub before : Me S (SeatView P)
    pub after : Me S (SeatView P)
    pub came : KnowsMore me.0 before.0
    pub load : LoadsFlag (step slots 3 0 0 none) before n after
    pub left : KnowsMore after.0 now.0
    pub on : HasGoneOn f me.0 now.0
