-- A claim that is all that a seat owes: its words are stored one after another, or it is given up.
use Rattle.std.proofs.Common.{◌≡◌, ℕ, zero, suc, ◌+◌, ◌-◌, ◌==◌, ◌^◌, ◌<◌, ◌≤◌, true, List, [], ◌∷◌, ◌++◌, length, take, take_all, map, sym, refl, ap, ◌∙◌, arith, subst}
use Rattle.std.specs.Prelude.{All, MatchResult, Result, Ok, Err}
use Rattle.std.proofs.lemmas.Bool.Decides.{nat_tests}
use Rattle.std.proofs.lemmas.List.{append_assoc, append-nil}
use Rattle.std.proofs.lemmas.List.Elements.{All-push, All-weaker}
use Rattle.go_word.specs.declared.edge.Edge.{Edge}
use Rattle.go_api.specs.declared.stop.Stop.{Stop}
use Rattle.go_core.specs.declared.entry.Entry.{Entry}
use Rattle.go_core.specs.View.{inserted, numbered, without}
use Rattle.go_core.proofs.Rising.{inserted-last}
use Rattle.go_rule.specs.declared.view.SeatView.{SeatView}
use Rattle.go_rule.specs.Rule.{Begins}
use Rattle.go_rule.specs.Views.{claiming, with_stored, with_abandoned}
use Rattle.go_ring.specs.declared.claim.Claim.{Claim}
use Rattle.go_ring.specs.Claims.{entries_in}
use Rattle.go_ring.specs.Calls.{for_each}
use Rattle.go_turns.specs.Going.{KnowsMore}
use Rattle.go_turns.proofs.Going.{knows_further}
use Rattle.go_live.specs.Putting.{but_put, HasClaimed, IsFilled, IsGivenUp, IsLetGo, IsPlaced, LooksOn}

-- a list without its first entry, which stands at a position
without_first : (x : Entry) (xs : List Entry) → without x.at (x ∷ xs) ≡ xs
without_first x xs = let same : (x.at == x.at) ≡ true = grind (arith, nat_tests) in rw same refl

-- entries before a position are before the next one, and so is one at it
before_next : (p : ℕ) (e : Edge) (xs : List Entry) → All (λ x. x.at < p) xs → All (λ (x : Entry). x.at < p + 1) (xs ++ record { at = p; edge = e } ∷ [])
before_next p e xs all =
    All-push (λ (x : Entry). x.at < p + 1) xs (record { at = p; edge = e })
    (All-weaker (λ (x : Entry). x.at < p) (λ (x : Entry). x.at < p + 1) (λ x less. omega arith) xs all) (omega arith)

module _ {P : Type 0} where
  -- a seat's view whose numbers are those of another knows no less
  knows_same : (d e : SeatView P) → e.told ≡ d.told → e.core.seen ≡ d.core.seen → e.core.taken ≡ d.core.taken → e.core.head ≡ d.core.head
      → e.core.archived ≡ d.core.archived → e.core.durable ≡ d.core.durable → KnowsMore d e
  knows_same d e told seen taken head archived durable =
      record {
        begins = sym (take_all (length d.told.seen) d.told.seen (omega arith)) ∙ ap (λ t. take (length d.told.seen) t.seen) (sym told);
        seen = omega arith;
        taken = omega arith;
        head = omega arith;
        archived = omega arith;
        durable = omega arith;
        passed = let same = ap (λ t. t.passed) told in omega arith;
        flagged = λ is. ap (λ t. t.flagged) told ∙ is;
      }

  -- what a seat has once all that it owed is stored, or given up
  record IsSettled (own : List Entry) (d e : SeatView P) : Type 0 where
    pub pending : e.core.pending ≡ []
    pub own_is : e.core.own ≡ own
    pub knows : KnowsMore d e
    pub rest : but_put e ≡ but_put d
    pub stake : e.stake ≡ d.stake
    pub share : e.share ≡ d.share
    pub told : e.told ≡ d.told

  settled_then : (own : List Entry) (d g e : SeatView P) → KnowsMore d g → but_put g ≡ but_put d → g.stake ≡ d.stake → g.share ≡ d.share → g.told ≡ d.told
      → IsSettled own g e → IsSettled own d e
  settled_then own d g e knows rest stake share told is =
      record {
        pending = is.pending;
        own_is = is.own_is;
        knows = knows_further d g e knows is.knows;
        rest = is.rest ∙ rest;
        stake = is.stake ∙ stake;
        share = is.share ∙ share;
        told = is.told ∙ told;
      }

  -- the words of a run of entries were stored, all that was owed
  stored_all : (es : List Edge) (p : ℕ) (d : SeatView P) → d.core.pending ≡ numbered p es → All (λ x. x.at < p) d.core.own
      → IsSettled (d.core.own ++ numbered p es) d (for_each with_stored (numbered p es) d)
  stored_all [] p d owed before =
      record {
        pending = owed;
        own_is = sym (append-nil d.core.own);
        knows = knows_same d d refl refl refl refl refl refl;
        rest = refl;
        stake = refl;
        share = refl;
        told = refl;
      }
  stored_all (e ∷ es) p d owed before =
      let x : Entry = record { at = p; edge = e } in
      let g : SeatView P = with_stored x d in
      let own : g.core.own ≡ d.core.own ++ x ∷ [] = inserted-last x d.core.own before in
      let pending : g.core.pending ≡ numbered (p + 1) es = ap (without p) owed ∙ without_first x (numbered (p + 1) es) in
      let below : All (λ y. y.at < p + 1) g.core.own = subst (λ (ys : List Entry). All (λ y. y.at < p + 1) ys) (sym own) (before_next p e d.core.own before) in
      let list : g.core.own ++ numbered (p + 1) es ≡ d.core.own ++ numbered p (e ∷ es) =
      ap (λ ys. ys ++ numbered (p + 1) es) own ∙ append_assoc d.core.own (x ∷ []) (numbered (p + 1) es)
      in
      subst (λ (ys : List Entry). IsSettled ys d (for_each with_stored (numbered (p + 1) es) g)) list
      (settled_then (g.core.own ++ numbered (p + 1) es) d g (for_each with_stored (numbered (p + 1) es) g) (knows_same d g refl refl refl refl refl refl) refl refl refl refl
      (stored_all es (p + 1) g pending below))

  -- a run of entries was given up, all that was owed
  abandoned_all : (es : List Edge) (p : ℕ) (d : SeatView P) → d.core.pending ≡ numbered p es
      → IsSettled d.core.own d (for_each with_abandoned (numbered p es) d)
  abandoned_all [] p d owed =
      record {
        pending = owed;
        own_is = refl;
        knows = knows_same d d refl refl refl refl refl refl;
        rest = refl;
        stake = refl;
        share = refl;
        told = refl;
      }
  abandoned_all (e ∷ es) p d owed =
      let x : Entry = record { at = p; edge = e } in
      let g : SeatView P = with_abandoned x d in
      let pending : g.core.pending ≡ numbered (p + 1) es = ap (without p) owed ∙ without_first x (numbered (p + 1) es) in
      settled_then d.core.own d g (for_each with_abandoned (numbered (p + 1) es) g) (knows_same d g refl refl refl refl refl refl) refl refl refl refl
      (abandoned_all es (p + 1) g pending)

  -- a seat that looked on has what it had
  looked_rest : (d e : SeatView P) → LooksOn d e → but_put e ≡ but_put d
  looked_rest d e on =
      ap (λ (z : SeatView P). record z { core = record z.core { pending = []; own = []; abandoned = [] }; share = record z.share { quota = 0 } }) on.rest

  module _ (edges : List Edge) (n : ℕ) (d e : SeatView P) (none : d.core.pending ≡ []) (quota : length edges ≤ d.share.quota) where
    -- what the claim leaves the seat to settle
    owes : (claiming n edges d).core.pending ≡ numbered n edges
    owes = ap (λ (xs : List Entry). xs ++ numbered n edges) none

    -- the claim was made, and what was owed then was settled
    claimed_by : (own : List Entry) (between : SeatView P) → LooksOn (claiming n edges d) between → IsSettled own between e → HasClaimed (length edges) d e
    claimed_by own between on settled =
        let first : KnowsMore d (claiming n edges d) = knows_same d (claiming n edges d) refl refl refl refl refl refl in
        let share = settled.share ∙ ap (λ z. z.share) on.rest in
        let left = ap (λ s. s.quota) share in
        record {
          pending = settled.pending;
          knows = knows_further d (claiming n edges d) e first (knows_further (claiming n edges d) between e on.knows settled.knows);
          rest = settled.rest ∙ looked_rest (claiming n edges d) between on;
          stake = settled.stake ∙ on.stake;
          quota = omega arith;
        }

    -- by storing its words
    pub placed : d.core.head ≤ n → n + length edges < 2 ^ 32 → All (λ (x : Entry). x.at < d.core.head) d.core.own
        → IsFilled (numbered n edges) (claiming n edges d) e → IsPlaced edges n d e
    placed behind small before filled =
        let g = filled.between in
        let owed : g.core.pending ≡ numbered n edges = ap (λ z. z.core.pending) filled.on.rest ∙ owes in
        let same : g.core.own ≡ d.core.own = ap (λ z. z.core.own) filled.on.rest in
        let earlier : All (λ (x : Entry). x.at < n) d.core.own =
        All-weaker (λ (x : Entry). x.at < d.core.head) (λ (x : Entry). x.at < n) (λ x less. omega arith) d.core.own before
        in
        let all : IsSettled (g.core.own ++ numbered n edges) g (for_each with_stored (numbered n edges) g) =
        stored_all edges n g owed (subst (λ (xs : List Entry). All (λ (x : Entry). x.at < n) xs) (sym same) earlier)
        in
        let settled : IsSettled (g.core.own ++ numbered n edges) g e = subst (IsSettled (g.core.own ++ numbered n edges) g) (sym filled.becomes) all in
        record {
          claimed = claimed_by (g.core.own ++ numbered n edges) g filled.on settled;
          behind = behind;
          small = small;
          own = settled.own_is ∙ ap (λ (xs : List Entry). xs ++ numbered n edges) same;
        }

    -- or by giving it up
    pub given_up : IsLetGo (numbered n edges) (claiming n edges d) e → IsGivenUp edges d e
    given_up gone =
        let g = gone.between in
        let owed : g.core.pending ≡ numbered n edges = ap (λ z. z.core.pending) gone.on.rest ∙ owes in
        let settled : IsSettled g.core.own g e = subst (IsSettled g.core.own g) (sym gone.becomes) (abandoned_all edges n g owed) in
        record {
          claimed = claimed_by g.core.own g gone.on settled;
          own = settled.own_is ∙ ap (λ z. z.core.own) gone.on.rest;
          flagged = ap (λ t. t.flagged) settled.told ∙ gone.flagged;
        }

-- however it is settled, where the claim's entries are those of its edges
pub place_settles : {P : Type 0} (edges : List Edge) (claim : Claim) (d g e : SeatView P) → d.core.pending ≡ [] → length edges ≤ d.share.quota
    → g ≡ claiming claim.first edges d → d.core.head ≤ claim.first → claim.first + length edges < 2 ^ 32
    → All (λ (x : Entry). x.at < d.core.head) d.core.own → entries_in claim ≡ numbered claim.first edges → (result : Result ℕ Stop)
    → MatchResult result (λ first. (first ≡ claim.first) × IsFilled (entries_in claim) g e) (λ _. IsLetGo (entries_in claim) g e)
    → MatchResult result (λ first. IsPlaced edges first d e) (λ _. IsGivenUp edges d e)
place_settles {P} edges claim d g e none quota is behind small before owed (Ok first) settles =
    let filled : IsFilled (numbered claim.first edges) (claiming claim.first edges d) e =
    subst (λ (v : SeatView P). IsFilled (numbered claim.first edges) v e) is (subst (λ (xs : List Entry). IsFilled xs g e) owed settles.1)
    in
    subst (λ (n : ℕ). IsPlaced edges n d e) (sym settles.0) (placed edges claim.first d e none quota behind small before filled)
place_settles {P} edges claim d g e none quota is behind small before owed (Err why) settles =
    given_up edges claim.first d e none quota
    (subst (λ (v : SeatView P). IsLetGo (numbered claim.first edges) v e) is (subst (λ (xs : List Entry). IsLetGo xs g e) owed settles))
