-- A seat that fills a claim or gives it up stays live, with its shares and its stake; and what it owes stays so while the claim is held.
use Rattle.std.proofs.Common.{◌≡◌, ℕ, ◌+◌, ◌<◌, List, [], ◌∷◌, ◌++◌, map, take, sym, refl, ap, ◌∙◌, arith, subst}
use Rattle.std.specs.Prelude.{All, Contains}
use Rattle.std.proofs.lemmas.List.Elements.{All-nil, All-cons, All-weaker, All-contains_itself, Contains-append_right}
use Rattle.atomic_table.specs.Table.{Me}
use Rattle.go_word.specs.declared.edge.Edge.{Edge}
use Rattle.go_word.specs.Word.{IsStorable}
use Rattle.go_core.specs.declared.entry.Entry.{Entry}
use Rattle.go_core.specs.declared.part.PartState.{PartState}
use Rattle.go_core.specs.Frame.{Frame}
use Rattle.go_core.specs.View.{numbered}
use Rattle.go_rule.specs.declared.view.SeatView.{SeatView}
use Rattle.go_rule.specs.Views.{with_stored, with_abandoned}
use Rattle.go_ring.specs.declared.claim.Claim.{Claim}
use Rattle.go_ring.specs.Claims.{entries_in}
use Rattle.go_ring.specs.Samples.{Stays}
use Rattle.go_ring.specs.Calls.{LoadsFronts, for_each, Fills, IsHeld}

-- a claim is owed, and has the edges that it was made for
pub claim_owed : (claim : Claim) (es : List Edge) (old now : List Entry) → entries_in claim ≡ numbered claim.first es → now ≡ old ++ numbered claim.first es
    → All (Contains now) (entries_in claim)
claim_owed claim es old now is pending =
    let xs = numbered claim.first es in
    let all : All (Contains (old ++ xs)) xs =
    All-weaker (Contains xs) (Contains (old ++ xs)) (λ x there. Contains-append_right old xs x there) xs (All-contains_itself xs)
    in
    subst (λ (ys : List Entry). All (Contains ys) (entries_in claim)) (sym pending) (subst (λ (ys : List Entry). All (Contains (old ++ xs)) ys) (sym is) all)

-- and is owed still where neither it nor what the seat owes has changed
pub owed_still : (one two : Claim) (xs ys : List Entry) → two ≡ one → ys ≡ xs → All (Contains xs) (entries_in one) → All (Contains ys) (entries_in two)
owed_still one two xs ys claim same all =
    subst (λ (k : Claim). All (Contains ys) (entries_in k)) (sym claim) (subst (λ (zs : List Entry). All (Contains zs) (entries_in one)) (sym same) all)

-- entries at one position that are the same have the same edges
numbered_same : (p : ℕ) (xs ys : List Edge) → numbered p xs ≡ numbered p ys → xs ≡ ys
numbered_same p xs ys is = sym (edges_of p xs) ∙ ap (map (λ (x : Entry). x.edge)) is ∙ edges_of p ys
  where
    edges_of : (p : ℕ) (es : List Edge) → map (λ (x : Entry). x.edge) (numbered p es) ≡ es
    edges_of p [] = refl
    edges_of p (e ∷ es) = ap (λ zs. e ∷ zs) (edges_of (p + 1) es)

-- so that its edges can be stored where those that were handed in can
pub claim_storable : (claim : Claim) (es : List Edge) → entries_in claim ≡ numbered claim.first es → All IsStorable es
    → All IsStorable (take claim.len claim.edges)
claim_storable claim es is all =
    subst (λ (xs : List Edge). All IsStorable xs) (sym (numbered_same claim.first (take claim.len claim.edges) es is)) all

-- one edge can, between few vertices
pub one_storable : (e : Edge) → e.src < 10000 → e.dst < 10000 → All IsStorable (e ∷ [])
one_storable e src dst =
    All-cons IsStorable e [] (record { within = record { source = omega arith; destination = omega arith } }) (All-nil IsStorable)

module _ {P : Type 0} where
  -- a seat is live as it was, and has its shares and its stake
  pub record Remains (d e : SeatView P) : Type 0 where
    pub live : e.core.live ≡ d.core.live
    pub share : e.share ≡ d.share
    pub stake : e.stake ≡ d.stake

  remains_then : (d e h : SeatView P) → Remains d e → Remains e h → Remains d h
  remains_then d e h one two = record { live = two.live ∙ one.live; share = two.share ∙ one.share; stake = two.stake ∙ one.stake }

  -- so that it stays in what the tests ask of it
  pub stays_so : (d e h : SeatView P) → Remains d e → Remains e h → Stays 0 d h
  stays_so d e h one two =
      let quota = ap (λ s. s.quota) two.share ∙ ap (λ s. s.quota) one.share in
      record { quota = omega arith; lot = ap (λ s. s.lot) two.share ∙ ap (λ s. s.lot) one.share; stake = two.stake ∙ one.stake }

  -- after one entry after another
  each_remains : (step : Entry → SeatView P → SeatView P) → ((x : Entry) (d : SeatView P) → Remains d (step x d)) → (xs : List Entry) (d : SeatView P)
      → Remains d (for_each step xs d)
  each_remains step keeps [] d = record { live = refl; share = refl; stake = refl }
  each_remains step keeps (x ∷ xs) d = remains_then d (step x d) (for_each step xs (step x d)) (keeps x d) (each_remains step keeps xs (step x d))

  -- whose words were stored, or which were given up
  pub stored_remains : (xs : List Entry) (d : SeatView P) → Remains d (for_each with_stored xs d)
  stored_remains xs d = each_remains with_stored (λ x e. record { live = refl; share = refl; stake = refl }) xs d

  pub abandoned_remains : (xs : List Entry) (d : SeatView P) → Remains d (for_each with_abandoned xs d)
  abandoned_remains xs d = each_remains with_abandoned (λ x e. record { live = refl; share = refl; stake = refl }) xs d

  module _ {S : Type 0} where
    -- both fronts were loaded
    fronts_remain : (state_of : P → PartState) (f : Frame) (slots : ℕ) (me now : Me S (SeatView P)) (archived durable : ℕ)
        → LoadsFronts state_of f slots me archived durable now → Remains me.0 now.0
    fronts_remain state_of f slots me now archived durable l = record {
      live = ap (λ z. z.0.core.live) l.second.becomes ∙ ap (λ z. z.0.core.live) l.first.becomes;
      share = ap (λ z. z.0.share) l.second.becomes ∙ ap (λ z. z.0.share) l.first.becomes;
      stake = ap (λ z. z.0.stake) l.second.becomes ∙ ap (λ z. z.0.stake) l.first.becomes;
    }

    -- a claim was filled
    pub filled_remains : (state_of : P → PartState) (f : Frame) (slots : ℕ) (claim : Claim) (me now : Me S (SeatView P))
        → Fills state_of f slots claim me now → Remains me.0 now.0
    filled_remains state_of f slots claim me now fills =
        let stored = stored_remains (entries_in claim) fills.between.0 in
        remains_then me.0 fills.between.0 now.0 (fronts_remain state_of f slots me fills.between fills.archived fills.durable fills.fronts)
        (record {
          live = ap (λ z. z.0.core.live) fills.becomes ∙ stored.live;
          share = ap (λ z. z.0.share) fills.becomes ∙ stored.share;
          stake = ap (λ z. z.0.stake) fills.becomes ∙ stored.stake;
        })

    -- or held: then it is still owed
    pub held_remains : (state_of : P → PartState) (f : Frame) (slots : ℕ) (claim : Claim) (released : ℕ) (me now : Me S (SeatView P))
        → IsHeld state_of f slots claim me released now → Remains me.0 now.0
    held_remains state_of f slots claim released me now held = fronts_remain state_of f slots me now held.archived held.durable held.fronts

    pub held_owed : (state_of : P → PartState) (f : Frame) (slots : ℕ) (claim : Claim) (released : ℕ) (me now : Me S (SeatView P))
        → IsHeld state_of f slots claim me released now → now.0.core.pending ≡ me.0.core.pending
    held_owed state_of f slots claim released me now held =
        ap (λ z. z.0.core.pending) held.fronts.second.becomes ∙ ap (λ z. z.0.core.pending) held.fronts.first.becomes
