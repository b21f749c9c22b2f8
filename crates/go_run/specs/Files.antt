-- What reading the scripts of several files gives.
use Rattle.std.specs.Prelude.{◌≡◌, ℕ, List, length, map, All, slice_get, slice_set, Option, Some, None, IfSome, Result, Ok, Err}
use Rattle.go_script.specs.declared.step.Step.{Step}
use Rattle.go_run.specs.Input.{Texts, scripts_under}
use Rattle.go_run.specs.NamedText.{AreSteps}
use Rattle.go_run.specs.declared.status.Status.{Status}
use Rattle.go_run.specs.declared.status.Status.TheVariants.{Script, NoFile, TooMuch, ReadFault, Memory}

-- what is answered where these are the texts of files under these names: their scripts, the refusal of the first that is refused, a fault of the shelf at one
-- that would be the first refusal if it weren't there, or want of memory
abbrev pub AreReadAs : ℕ → List (List ℕ) → List (Option (List ℕ)) → Result (List (List Step)) Status → Type 0
AreReadAs v names files (Ok scripts) = scripts_under v names files ≡ Ok scripts
AreReadAs v names files (Err (Script name line kind)) = scripts_under v names files ≡ Err (Script name line kind)
AreReadAs v names files (Err (NoFile name)) = scripts_under v names files ≡ Err (NoFile name)
AreReadAs v names files (Err (TooMuch counted limit)) = scripts_under v names files ≡ Err (TooMuch counted limit)
AreReadAs v names files (Err (ReadFault name)) =
    (i : ℕ) × (slice_get names i ≡ Some name) × (scripts_under v names (slice_set files i None) ≡ Err (NoFile name))
AreReadAs v names files (Err Memory) = Unit {0}
AreReadAs v names files (Err _) = ⊥

-- the texts of files under names on a shelf; where it doesn't tell, some texts
abbrev pub AreTexts : Option Texts → List (List ℕ) → List (Option (List ℕ)) → Type 0
AreTexts shelf names files = IfSome shelf (λ known. files ≡ map known names)

-- what is answered of the texts of files on a shelf
pub record ReadsFiles (v : ℕ) (shelf : Option Texts) (names : List (List ℕ)) (result : Result (List (List Step)) Status) : Type 0 where
  pub files : List (Option (List ℕ))
  pub told : AreTexts shelf names files
  pub read : AreReadAs v names files result

-- the scripts of the first files were read
pub record HasRead (v : ℕ) (shelf : Option Texts) (names : List (List ℕ)) (scripts : List (List Step)) : Type 0 where
  pub files : List (Option (List ℕ))
  pub told : AreTexts shelf names files
  pub all : length files ≡ length names
  pub same : length scripts ≡ length names
  pub read : scripts_under v names files ≡ Ok scripts
  pub steps : All (AreSteps v) scripts
