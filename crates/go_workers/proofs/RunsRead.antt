-- What a worker knows of a run of entries that it read in their turn.
use Rattle.std.proofs.Common.{◌≡◌, ℕ, zero, suc, ◌+◌, ◌-◌, ◌≤◌, Bool, true, false, cond, List, [], ◌∷◌, length, take, drop, sym, refl}
use Rattle.std.proofs.Common.{ap, ◌∙◌, ⊎_elim, arith, subst}
use Rattle.std.specs.Prelude.{All, max, ◌==◌}
use Rattle.std.proofs.lemmas.List.Elements.{All-head, All-tail}
use mathlib.Core.Option.{some, some-injective, some-ne-none}
use lib.ListN.{get_elem?}
use Rattle.atomic_table.specs.Table.{Me}
use Rattle.go_word.specs.declared.edge.Edge.{Edge}
use Rattle.go_core.specs.Frame.{Frame}
use Rattle.go_core.specs.Rule.{IsOf}
use Rattle.go_core.specs.View.{numbered}
use Rattle.go_rule.specs.declared.view.SeatView.{SeatView}
use Rattle.go_rule.specs.Views.{with_unmoved}
use Rattle.go_ring.specs.Takes.{with_run, Takes, TakeIs, IsLongest}
use Rattle.go_turns.specs.Going.{HasGoneOn}
use Rattle.go_turns.proofs.Going.{gone_nowhere, gone_unmoved}
use Rattle.go_workers.specs.Turns.{HasRead, MayBringOn}

-- a list goes on with what stands at a position
drop_there : (xs : List Edge) (p : ℕ) (e : Edge) → get_elem? xs p ≡ some e → drop p xs ≡ e ∷ drop (suc p) xs
drop_there [] p e there = absurd (some-ne-none e (sym there))
drop_there (x ∷ xs) zero e there = ap (λ z. z ∷ xs) (some-injective x e there)
drop_there (x ∷ xs) (suc p) e there = drop_there xs p e there

-- so entries that stand from a position on are the ones there
run_there : (seen run : List Edge) (p : ℕ) → All (IsOf seen) (numbered p run) → run ≡ take (length run) (drop p seen)
run_there seen [] p all = refl
run_there seen (e ∷ es) p all =
    let first : get_elem? seen p ≡ some e = All-head (IsOf seen) (record { at = p; edge = e }) (numbered (p + 1) es) all in
    let next : p + 1 ≡ suc p = omega arith in
    let rest : es ≡ take (length es) (drop (p + 1) seen) =
    run_there seen es (p + 1) (All-tail (IsOf seen) (record { at = p; edge = e }) (numbered (p + 1) es) all) in
    ap (λ zs. e ∷ zs) (rest ∙ ap (λ k. take (length es) (drop k seen)) next) ∙ ap (take (suc (length es))) (sym (drop_there seen p e first))

module _ {P S : Type 0} (room from : ℕ) (run : List Edge) (me now : Me S (SeatView P)) where
  -- where there were entries
  pub some_taken : 1 ≤ length run → TakeIs from room run me now → Takes from run me now
  some_taken any takes = ⊎_elim (λ none. let long : length run ≡ 0 = ap length none.0 in absurd (omega arith)) (λ taken. taken.1) takes

  -- the seat's view is then
  pub run_view : (any : 1 ≤ length run) (takes : TakeIs from room run me now) → now ≡ (with_run (from + length run) (some_taken any takes).seen me.0, me.1)
  run_view any takes = (some_taken any takes).becomes

  -- it has read them
  pub has_read : 1 ≤ length run → TakeIs from room run me now → HasRead from run now.0
  has_read any takes =
      let t = some_taken any takes in
      let long = t.sees.up_to in
      let upto : from + length run - from ≡ length run = omega arith in
      subst (HasRead from run) (sym (ap (λ z. z.0) t.becomes))
      (record {
        taken = omega arith;
        seen = omega arith;
        run_is = run_there t.seen run from t.entries ∙ ap (λ k. take k (drop from t.seen)) (sym upto);
        small = t.small;
      })

  -- the archiver, whose room holds what it took before, took no more
  pub may_bring : {slots : ℕ} → 1 ≤ length run → TakeIs from room run me now → IsLongest slots room me.0 from (length run)
      → me.0.core.archives ≡ true → me.0.core.archived ≡ from → me.0.core.taken ≤ from + room → MayBringOn from run now.0
  may_bring any takes longest archives archived fits =
      let t = some_taken any takes in
      let no_more : me.0.core.taken ≤ from + length run =
      ⊎_elim (λ (full : length run ≡ room). omega arith) (λ short. short.untaken) longest in
      record {
        read = has_read any takes;
        archives = ap (λ z. z.0.core.archives) t.becomes ∙ archives;
        archived = let same : now.0.core.archived ≡ me.0.core.archived = ap (λ z. z.0.core.archived) t.becomes in omega arith;
        no_more = let is : now.0.core.taken ≡ max me.0.core.taken (from + length run) = ap (λ z. z.0.core.taken) t.becomes in omega arith;
      }

  -- one that read entries, or none, has gone on
  pub gone_run : (f : Frame) → TakeIs from room run me now → HasGoneOn f me.0 now.0
  gone_run f takes =
      ⊎_elim
      (λ none.
      subst (HasGoneOn f me.0) (sym (ap (λ z. z.0) none.1)) (either (room == 0)))
      (λ any.
      let t = any.1 in
      subst (HasGoneOn f me.0) (sym (ap (λ z. z.0) t.becomes))
      (record {
        knows = record {
          begins = t.sees.begins;
          seen = omega arith;
          taken = omega arith;
          head = omega arith;
          archived = omega arith;
          durable = omega arith;
          passed = omega arith;
          flagged = λ is. is;
        };
        rest = refl;
        pins = λ place here pin. (λ there. there, λ there. there);
      })) takes
    where
      either : (b : Bool) → HasGoneOn f me.0 (cond b me (with_unmoved me.0, me.1)).0
      either true = gone_nowhere f me.0
      either false = gone_unmoved f me.0

  -- and has in its hand what it had
  pub hand_run : TakeIs from room run me now → now.1 ≡ me.1
  hand_run takes = ⊎_elim (λ none. ap (λ z. z.1) none.1 ∙ either (room == 0)) (λ any. ap (λ z. z.1) any.1.becomes) takes
    where
      either : (b : Bool) → (cond b me (with_unmoved me.0, me.1)).1 ≡ me.1
      either true = refl
      either false = refl

  -- the fronts that it knows are as they were
  pub fronts_run : TakeIs from room run me now → (now.0.core.archived ≡ me.0.core.archived) × (now.0.core.durable ≡ me.0.core.durable)
  fronts_run takes =
      ⊎_elim
      (λ none. (ap (λ z. z.0.core.archived) none.1 ∙ (either (room == 0)).0, ap (λ z. z.0.core.durable) none.1 ∙ (either (room == 0)).1))
      (λ any. (ap (λ z. z.0.core.archived) any.1.becomes, ap (λ z. z.0.core.durable) any.1.becomes)) takes
    where
      either : (b : Bool) → ((cond b me (with_unmoved me.0, me.1)).0.core.archived ≡ me.0.core.archived)
          × ((cond b me (with_unmoved me.0, me.1)).0.core.durable ≡ me.0.core.durable)
      either true = (refl, refl)
      either false = (refl, refl)
