-- A seat that looks at fronts and at the flag alone owes, owns and has what it did.
use Rattle.std.proofs.Common.{◌≡◌, ℕ, ◌≤◌, ◌||◌, Bool, true, false, List, sym, refl, ap, ◌∙◌, arith, subst}
use Rattle.std.specs.Prelude.{All, Contains, min, nat_lt}
use Rattle.std.proofs.lemmas.List.Elements.{All-contains_itself}
use Rattle.atomic_table.specs.Table.{Me, Step, step}
use mathlib.Core.Option.{none}
use Rattle.go_api.specs.declared.stop.Stop.{Stop}
use Rattle.go_api.specs.declared.stop.Stop.TheVariants.{Disk, Memory}
use Rattle.go_core.specs.Frame.{Frame}
use Rattle.go_core.specs.declared.entry.Entry.{Entry}
use Rattle.go_core.specs.declared.part.PartState.{PartState}
use Rattle.go_rule.specs.declared.view.SeatView.{SeatView}
use Rattle.go_rule.specs.Steps.{LoadsArchived, LoadsDurable, LoadsFlag}
use Rattle.go_rule.specs.Views.{with_stored}
use Rattle.go_ring.specs.declared.claim.Claim.{Claim}
use Rattle.go_ring.specs.Calls.{cause_of, for_each, Fills, LoadsFronts, Looks}
use Rattle.go_ring.specs.Claims.{entries_in}
use Rattle.go_turns.specs.Going.{HasGoneOn}
use Rattle.go_turns.proofs.Going.{gone_archived, gone_durable, gone_flag, gone_further, gone_head, gone_nowhere, knows_further}
use Rattle.go_live.specs.Putting.{IsFilled, LooksOn}

module _ {P : Type 0} where
  -- a seat that did nothing
  pub looks_nowhere : (f : Frame) (d : SeatView P) → LooksOn d d
  looks_nowhere f d = record { knows = (gone_nowhere f d).knows; rest = refl; stake = refl }

  -- and one that looked on twice
  pub looks_further : (d e g : SeatView P) → LooksOn d e → LooksOn e g → LooksOn d g
  looks_further d e g one two = record { knows = knows_further d e g one.knows two.knows; rest = two.rest ∙ one.rest; stake = two.stake ∙ one.stake }

  module _ {S : Type 0} (f : Frame) where
    -- both fronts were loaded
    pub looks_fronts : (state_of : P → PartState) (slots : ℕ) (me now : Me S (SeatView P)) (archived durable : ℕ)
        → LoadsFronts state_of f slots me archived durable now → LooksOn me.0 now.0
    looks_fronts state_of slots me now archived durable l =
        let one = gone_archived f (step slots 1 0 0 none) me l.between archived state_of l.first in
        let two = gone_durable f (step slots 2 0 0 none) l.between now durable l.second in
        looks_further me.0 l.between.0 now.0
        (record { knows = one.knows; rest = one.rest; stake = ap (λ z. z.0.stake) l.first.becomes })
        (record { knows = two.knows; rest = two.rest; stake = ap (λ z. z.0.stake) l.second.becomes })

    pub fronts_hand : (state_of : P → PartState) (slots : ℕ) (me now : Me S (SeatView P)) (archived durable : ℕ)
        → LoadsFronts state_of f slots me archived durable now → now.1 ≡ me.1
    fronts_hand state_of slots me now archived durable l = ap (λ z. z.1) l.second.becomes ∙ ap (λ z. z.1) l.first.becomes

    -- the flag was
    pub looks_flag : (s : Step S) (me now : Me S (SeatView P)) (n : ℕ) → LoadsFlag s me n now → LooksOn me.0 now.0
    looks_flag s me now n loads =
        let one = gone_flag f s me now n loads in
        record { knows = one.knows; rest = one.rest; stake = ap (λ z. z.0.stake) loads.becomes }

    -- the length was loaded, and both fronts
    pub gone_looks : (state_of : P → PartState) (slots : ℕ) (me now : Me S (SeatView P)) (head released : ℕ) → Looks state_of f slots me head released now
        → HasGoneOn f me.0 now.0
    gone_looks state_of slots me now head released l =
        let fronts = l.fronts in
        let between = fronts.between in
        gone_further f me.0 l.after.0 now.0 (gone_head f (step slots 0 0 0 none) me l.after head l.length_is)
        (gone_further f l.after.0 between.0 now.0 (gone_archived f (step slots 1 0 0 none) l.after between l.archived state_of fronts.first)
        (gone_durable f (step slots 2 0 0 none) between now l.durable fronts.second))

    pub looks_hand : (state_of : P → PartState) (slots : ℕ) (me now : Me S (SeatView P)) (head released : ℕ) → Looks state_of f slots me head released now
        → now.1 ≡ me.1
    looks_hand state_of slots me now head released l =
        fronts_hand state_of slots l.after now l.archived l.durable l.fronts ∙ ap (λ z. z.1) l.length_is.becomes

    -- what such a look tells of a seat's own entries and of the first position
    pub looks_known : (state_of : P → PartState) (slots : ℕ) (me now : Me S (SeatView P)) (head released : ℕ) → Looks state_of f slots me head released now
        → (me.0.core.head ≤ head) × (head ≤ now.0.core.head) × (min me.0.core.archived me.0.core.durable ≤ released)
    looks_known state_of slots me now head released l =
        let fronts = l.fronts in
        let after = ap (λ z. z.0) l.length_is.becomes in
        let then = ap (λ z. z.0) fronts.first.becomes in
        let head_is : l.after.0.core.head ≡ head = ap (λ d. d.core.head) after in
        let kept : now.0.core.head ≡ l.after.0.core.head = ap (λ z. z.0.core.head) fronts.second.becomes ∙ ap (λ d. d.core.head) then in
        let archived : me.0.core.archived ≤ l.archived = subst (λ n. n ≤ l.archived) (ap (λ d. d.core.archived) after) fronts.first.front.known_to in
        let durable : me.0.core.durable ≤ l.durable =
        subst (λ n. n ≤ l.durable) (ap (λ d. d.core.durable) then ∙ ap (λ d. d.core.durable) after) fronts.second.front.known_to
        in
        let known = l.length_is.known in
        let lesser = l.lesser in
        (known, omega arith, omega arith)

    -- a claim whose slots were free by the fronts is filled
    pub filled : (state_of : P → PartState) (slots : ℕ) (claim : Claim) (d : SeatView P) (me now : Me S (SeatView P)) → LooksOn d me.0
        → Fills state_of f slots claim me now → IsFilled (entries_in claim) d now.0
    filled state_of slots claim d me now on fills =
        record {
          between = fills.between.0;
          on = looks_further d me.0 fills.between.0 on (looks_fronts state_of slots me fills.between fills.archived fills.durable fills.fronts);
          becomes = ap (λ z. z.0) fills.becomes;
        }

    pub filled_hand : (state_of : P → PartState) (slots : ℕ) (claim : Claim) (me now : Me S (SeatView P)) → Fills state_of f slots claim me now → now.1 ≡ me.1
    filled_hand state_of slots claim me now fills =
        ap (λ z. z.1) fills.becomes ∙ fronts_hand state_of slots me fills.between fills.archived fills.durable fills.fronts

-- what is owed, where just that is pending
pub owed_itself : (pending owed : List Entry) → pending ≡ owed → All (Contains pending) owed
owed_itself pending owed is = subst (λ (xs : List Entry). All (Contains xs) owed) (sym is) (All-contains_itself owed)

-- a cause that the flag gave is one
pub flagged_by : (why : Stop) (b : Bool) → (b || nat_lt 0 (cause_of why)) ≡ true
flagged_by Disk true = refl
flagged_by Disk false = refl
flagged_by Memory true = refl
flagged_by Memory false = refl

-- a seat that loaded it saw the flag raised
pub saw_flag : {P S : Type 0} (s : Step S) (me now : Me S (SeatView P)) (why : Stop) → LoadsFlag s me (cause_of why) now → now.0.told.flagged ≡ true
saw_flag s me now why loads = ap (λ z. z.0.told.flagged) loads.becomes ∙ flagged_by why me.0.told.flagged
