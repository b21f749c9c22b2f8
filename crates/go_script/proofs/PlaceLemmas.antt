-- Lemmas on what stands at the places.
use Rattle.std.proofs.Common.{◌≡◌, ℕ, ◌<◌, List, [], ◌∷◌, ◌++◌, length, length-set, get_or, set, slice_get, Option, Some, None, sym, ap, ◌∙◌, arith}
use Rattle.std.specs.Prelude.{◌==◌, if◌then◌else◌}
use Rattle.std.proofs.lemmas.List.Sums.{fold-append}
use Rattle.std.proofs.lemmas.Option.{slice_get_within, slice_get-get_or, get_or_from_slice_get}
use Rattle.std.proofs.lemmas.Grind.{common_steps}
use Rattle.std.proofs.lemmas.Bool.Decides.{nat_tests}
use Rattle.go_script.specs.declared.command.Command.{Command}
use Rattle.go_script.specs.declared.usage.Kind.{Kind}
use Rattle.go_script.specs.declared.usage.Use.{Use}
use Rattle.go_script.specs.declared.usage.Use.TheVariants.{Fills, Frees}
use Rattle.go_script.specs.Commands.{use_of}
use Rattle.go_script.specs.Places.{kind_after, kind_at}
use Rattle.go_script.specs.Held.{Tells}

-- what stands at a place after one more command
pub kind_at-push : (k : ℕ) (commands : List Command) (command : Command) →
    kind_at k (commands ++ command ∷ []) ≡ kind_after k (kind_at k commands) (use_of command)
kind_at-push k commands command = fold-append (λ held command'. kind_after k held (use_of command')) None commands (command ∷ [])

-- what stands in a list after a write
get_or-set_to : {A : Type 0} (xs : List A) (i k : ℕ) (a b d : A) → k < length xs → get_or xs k d ≡ b →
    get_or (set xs i a) k d ≡ (if i == k then a else b)
get_or-set_to xs i k a b d within here = grind (arith, common_steps, nat_tests)

-- a written place, and the others
slice_get-set : {A : Type 0} (xs : List A) (i k : ℕ) (a b : A) → slice_get xs k ≡ Some b → slice_get (set xs i a) k ≡ Some (if i == k then a else b)
slice_get-set {A} xs i k a b here =
    let within : k < length xs = slice_get_within xs k b here in
    slice_get-get_or (set xs i a) k a (omega (arith, length-set {A = A}))
    ∙ ap (λ (c : A). Some c) (get_or-set_to xs i k a b a within (get_or_from_slice_get xs k b a here))

-- a command that changes one place, and the table with that place written
Tells-set : (held : List (Option Kind)) (place : ℕ) (now : Option Kind) (before : List Command) (command : Command) →
    ((k : ℕ) (kind : Option Kind) → kind_after k kind (use_of command) ≡ (if place == k then now else kind)) →
    Tells (record { held = held }) before → Tells (record { held = set held place now }) (before ++ command ∷ [])
Tells-set held place now before command change tells = record {
  each = λ k below. slice_get-set held place k now (kind_at k before) (tells.each k below)
      ∙ ap (λ (kind : Option Kind). Some kind) (sym (kind_at-push k before command ∙ change k (kind_at k before)));
}

-- the table after a command that fills a place
pub Tells-fills : (held : List (Option Kind)) (place : ℕ) (kind : Kind) (made : Use) (before : List Command) (command : Command) →
    Tells (record { held = held }) before → use_of command ≡ made → made ≡ Fills place kind →
    Tells (record { held = set held place (Some kind) }) (before ++ command ∷ [])
Tells-fills held place kind made before command tells uses is =
    Tells-set held place (Some kind) before command (λ k held'. ap (kind_after k held') (uses ∙ is)) tells

-- the table after a command that frees a place
pub Tells-frees : (held : List (Option Kind)) (place : ℕ) (kind : Kind) (made : Use) (before : List Command) (command : Command) →
    Tells (record { held = held }) before → use_of command ≡ made → made ≡ Frees place kind →
    Tells (record { held = set held place None }) (before ++ command ∷ [])
Tells-frees held place kind made before command tells uses is =
    Tells-set held place None before command (λ k held'. ap (kind_after k held') (uses ∙ is)) tells
