-- Lemmas on the steps of a script.
use Rattle.std.proofs.Common.{◌≡◌, ◌⊎◌, ℕ, zero, suc, List, [], ◌∷◌, ◌++◌, slice_get, take, length, Some, refl, ap, inl, inr, subst, sym}
use Rattle.go_script.specs.declared.step.Step.{Step}
use Rattle.go_script.specs.declared.command.Command.{Command}
use Rattle.go_script.specs.Places.{Fits, IsScript, IsWithin, NamesBelow}
use Rattle.go_script.specs.Commands.{commands_of}

-- an element of a list with one more at the end stands in the list, or is that one
slice_get_push : {A : Type 0} (xs : List A) (y : A) (k : ℕ) (x : A) → slice_get (xs ++ y ∷ []) k ≡ Some x →
    ((slice_get xs k ≡ Some x) × (take k (xs ++ y ∷ []) ≡ take k xs)) ⊎ ((y ≡ x) × (take k (xs ++ y ∷ []) ≡ xs))
slice_get_push [] y zero x here = inr (cc, refl)
slice_get_push [] y (suc k) x here = absurd (cc)
slice_get_push (z ∷ zs) y zero x here = inl (here, refl)
slice_get_push (z ∷ zs) y (suc k) x here =
    elim (slice_get_push zs y k x here) [
      | inl h ↦ inl (h.0, ap (λ l. z ∷ l) h.1)
      | inr h ↦ inr (h.0, ap (λ l. z ∷ l) h.1)
    ]

-- a script with one more command that fits is a script
pub IsScript_push : (commands : List Command) (command : Command) → IsScript commands → Fits commands command → IsScript (commands ++ command ∷ [])
IsScript_push commands command script fits = record {
  each = λ k other here. elim (slice_get_push commands command k other here) [
    | inl h ↦ subst (λ (before : List Command). Fits before other) (sym h.1) (script.each k other h.0)
    | inr h ↦ subst (λ (before : List Command). Fits before other) (sym h.1) (subst (λ (c : Command). Fits commands c) h.0 fits)
  ];
}

-- there are as many commands as steps
pub length-commands_of : (steps : List Step) → length (commands_of steps) ≡ length steps
length-commands_of [] = refl
length-commands_of (step ∷ steps) = ap suc (length-commands_of steps)

-- the commands of steps with one more
pub commands_of-push : (steps : List Step) (step : Step) → commands_of (steps ++ step ∷ []) ≡ commands_of steps ++ step.command ∷ []
commands_of-push [] step = refl
commands_of-push (s ∷ steps) step = ap (λ l. s.command ∷ l) (commands_of-push steps step)

-- steps with one more that fits
pub steps_push : (steps : List Step) (step : Step) → IsScript (commands_of steps) → Fits (commands_of steps) step.command →
    IsScript (commands_of (steps ++ step ∷ []))
steps_push steps step script fits = rw (commands_of-push steps step) (IsScript_push (commands_of steps) step.command script fits)

-- commands below a number with one more
pub IsWithin_push : (v : ℕ) (commands : List Command) (command : Command) → IsWithin v commands → NamesBelow v command → IsWithin v (commands ++ command ∷ [])
IsWithin_push v commands command within below = record {
  each = λ k other here. elim (slice_get_push commands command k other here) [
    | inl h ↦ within.each k other h.0
    | inr h ↦ subst (λ (c : Command). NamesBelow v c) h.0 below
  ];
}
