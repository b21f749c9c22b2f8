-- What a claim leaves of a seat, once its words are stored or it was given up.
use Rattle.std.specs.Prelude.{◌≡◌, ℕ, ◌+◌, ◌^◌, ◌<◌, ◌≤◌, true, List, [], ◌∷◌, ◌++◌, length, All}
use Rattle.go_word.specs.declared.edge.Edge.{Edge}
use Rattle.go_api.specs.Alone.{positions}
use Rattle.go_api.specs.Calls.{ArePut, TellsMet}
use Rattle.go_api.specs.Standing.{Standing, Kept}
use Rattle.go_api.specs.declared.stop.Stop.{Stop}
use Rattle.go_core.specs.declared.entry.Entry.{Entry}
use Rattle.go_core.specs.View.{numbered}
use Rattle.go_rule.specs.declared.view.SeatView.{SeatView}
use Rattle.go_rule.specs.Views.{with_stored, with_abandoned}
use Rattle.go_ring.specs.Calls.{for_each}
use Rattle.go_turns.specs.Going.{but_known, KnowsMore}

module _ {P : Type 0} where
  -- what a claim leaves of a seat's view: all but what it knows, what it owes, owns and gave up, and its quota
  abbrev pub but_put : SeatView P → SeatView P
  but_put d = record (but_known d) {
    core = record (but_known d).core { pending = []; own = []; abandoned = [] };
    share = record d.share { quota = 0 };
  }

  -- a seat looked at fronts and at the flag alone: it knows no less, and what it owes, owns and has is as it was
  pub record LooksOn (d e : SeatView P) : Type 0 where
    pub knows : KnowsMore d e
    pub rest : but_known e ≡ but_known d
    pub stake : e.stake ≡ d.stake

  -- a claim of so many entries was made and is no longer owed: the seat knows no less, and has the parts and the pins that it had
  pub record HasClaimed (count : ℕ) (d e : SeatView P) : Type 0 where
    pub pending : e.core.pending ≡ []
    pub knows : KnowsMore d e
    pub rest : but_put e ≡ but_put d
    pub stake : e.stake ≡ d.stake
    pub quota : e.share.quota + count ≡ d.share.quota

  -- its entries stand from a position on, which isn't below the length that was known
  pub record IsPlaced (edges : List Edge) (position : ℕ) (d e : SeatView P) : Type 0 where
    pub claimed : HasClaimed (length edges) d e
    pub behind : d.core.head ≤ position
    pub small : position + length edges < 2 ^ 32
    pub own : e.core.own ≡ d.core.own ++ numbered position edges

  -- it was given up, since the seat saw the flag raised
  pub record IsGivenUp (edges : List Edge) (d e : SeatView P) : Type 0 where
    pub claimed : HasClaimed (length edges) d e
    pub own : e.core.own ≡ d.core.own
    pub flagged : e.told.flagged ≡ true

module _ {P : Type 0} where
  -- the words of all that a seat owed were stored, one entry after another
  pub record IsFilled (owed : List Entry) (d e : SeatView P) : Type 0 where
    pub between : SeatView P
    pub on : LooksOn d between
    pub becomes : e ≡ for_each with_stored owed between

  -- or all of it was given up, once the flag was seen raised
  pub record IsLetGo (owed : List Entry) (d e : SeatView P) : Type 0 where
    pub between : SeatView P
    pub on : LooksOn d between
    pub flagged : between.told.flagged ≡ true
    pub becomes : e ≡ for_each with_abandoned owed between

-- a session's entries were put in a row from a position on
pub record ArePutFrom (edges : List Edge) (position : ℕ) (before after : Standing) : Type 0 where
  pub put : ArePut edges (positions position (length edges)) before after
  pub quota : after.quota + length edges ≡ before.quota

-- none of them was put, and no more than their quota is spent
pub record ArePutStopped (edges : List Edge) (why : Stop) (before after : Standing) : Type 0 where
  pub kept : Kept before after
  pub quota : after.quota + length edges ≡ before.quota
  pub met : TellsMet why after
