-- What the tests ask of a seat, and what the parts of their rings mean.
use Rattle.std.specs.Prelude.{◌≡◌, ℕ, ◌≤◌, ⊤, max, length}
use Rattle.go_core.specs.declared.part.PartState.{PartState}
use Rattle.go_core.specs.Parts.{Reaches, no_mark, reach_of}
use Rattle.go_rule.specs.declared.view.SeatView.{SeatView}
use Rattle.go_rule.specs.Meaning.{Meaning}

-- a part of which no more is known than its state
abbrev pub meaning_by : {P : Type 0} → (P → PartState) → Meaning P
meaning_by state = record {
  state_of = state;
  stands_for = λ part first log. Reaches (state part) log;
  fits = λ part place shards vertices. place ≤ shards;
  keeps = λ part front. ((state part).cut ≤ front) × (front ≤ (state part).front);
  is_spent = λ part. ⊥;
  mark_of = λ part. no_mark;
  recovers = λ part log vertices first mark. ⊤;
}

-- such a state brought on to a position
abbrev pub brought_to : ℕ → PartState → PartState
brought_to to s = record s { front = max s.front to }

module _ {P : Type 0} where
  -- a seat may bring shards on to a position: it took all up to there, and has seen it
  pub record MayBring (to : ℕ) (d : SeatView P) : Type 0 where
    pub reach : to ≤ reach_of d.core
    pub seen : to ≤ length d.told.seen

  -- a seat's shares, what it owes, what it was told and how far it may bring shards on are as they were
  pub record Stays (d e : SeatView P) : Type 0 where
    pub lot : e.share.lot ≡ d.share.lot
    pub pending : e.core.pending ≡ d.core.pending
    pub told : e.told ≡ d.told
    pub reach : reach_of e.core ≡ reach_of d.core
