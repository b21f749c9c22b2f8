-- What reading the words keeps: the values and the files that were found, and what a word is by itself.
use Rattle.std.specs.Prelude.{◌≡◌, ◌≢◌, ℕ, ◌<◌, ◌≤◌, nat_lt, Bool, true, false, ◌&&◌, if◌then◌else◌, codes}
use Rattle.std.specs.Prelude.{IsTrue, List, [], ◌∷◌, ◌++◌, length, Option, Some, None, IfSome}
use Rattle.std.specs.Prelude.{option_copied, option_to_list, is_none, option_map}
use Rattle.std.specs.Borrow.{Bor}
use Rattle.go_word.specs.declared.edge.TheConstants.{VERTEX_LIMIT}
use Rattle.go_api.specs.declared.limits.TheConstants.{SHARD_LIMIT}
use Rattle.go_run.specs.declared.limits.TheConstants.{VERTICES, RING, SHARDS, SCRIPTS}
use Rattle.go_run.specs.declared.setting.Setting.{Setting}
use Rattle.go_run.specs.declared.setting.Setting.TheVariants as settings
use Rattle.go_run.specs.declared.setting.Word.{Word}
use Rattle.go_run.specs.declared.setting.Word.TheVariants as forms
use Rattle.go_run.specs.declared.found.Found.{Found}
use Rattle.go_run.specs.declared.wanted.Job.{Job}
use Rattle.go_run.specs.declared.wanted.Job.TheVariants as jobs
use Rattle.go_run.specs.declared.wanted.Verb.{Verb}
use Rattle.go_run.specs.declared.wanted.Verb.TheVariants as verbs
use Rattle.go_run.specs.declared.wanted.Wanted.{Wanted}
use Rattle.go_run.specs.Work.{Work}
use Rattle.go_run.specs.Work.Work.{driving, generating}
use Rattle.go_run.specs.Words.{has_dash, name_of, Part, chosen, named, may_be, Writes}
use Rattle.go_run.specs.Words.{values_in, files_in, IsChosen, IsNumber, IsRing, IsText, IsGiven, usual_log, Asked, command_of, IsWork}

-- what a word is: no name of a setting begins it, and it begins with a dash, where it is unknown
abbrev pub IsWord : List ℕ → Word → Type 0
IsWord word forms.File = has_dash word ≡ false
IsWord word (forms.Name setting) = word ≡ name_of setting
IsWord word (forms.Choice setting value) = word ≡ name_of setting ++ 61 ∷ value.now
IsWord word forms.Unknown =
    (has_dash word ≡ true) × ((setting : Setting) → word ≢ name_of setting)
    × ((setting : Setting) (value : List ℕ) → word ≢ name_of setting ++ 61 ∷ value)

-- the values and the files that were found so far
pub record Kept : Type 0 where
  pub vertices : Option (List ℕ)
  pub ring : Option (List ℕ)
  pub shards : Option (List ℕ)
  pub log : Option (List ℕ)
  pub edges : Option (List ℕ)
  pub seed : Option (List ℕ)
  pub files : List (List ℕ)

abbrev pub nothing_kept : Kept
nothing_kept = record { vertices = None; ring = None; shards = None; log = None; edges = None; seed = None; files = [] }

-- what was found, by its bytes
abbrev pub kept_of : Found → Kept
kept_of found = record {
  vertices = option_copied found.vertices;
  ring = option_copied found.ring;
  shards = option_copied found.shards;
  log = option_copied found.log;
  edges = option_copied found.edges;
  seed = option_copied found.seed;
  files = found.files;
}

abbrev pub kept_in : Option Found → Option Kept
kept_in found = option_map kept_of found

-- a value or a name that is the first one, and may be one
abbrev pub first_of : Bool → Option (List ℕ) → List ℕ → Option (List ℕ)
first_of may before text = if may && is_none before then Some text else None

-- what is kept with one part more; nothing where the part may not be, is the second of its setting, or a file too many
abbrev pub put : Kept → Part → Option Kept
put kept (chosen settings.Vertices value) =
    option_map (λ v. record kept { vertices = Some v }) (first_of (may_be (chosen settings.Vertices value)) kept.vertices value)
put kept (chosen settings.Ring value) =
    option_map (λ v. record kept { ring = Some v }) (first_of (may_be (chosen settings.Ring value)) kept.ring value)
put kept (chosen settings.Shards value) =
    option_map (λ v. record kept { shards = Some v }) (first_of (may_be (chosen settings.Shards value)) kept.shards value)
put kept (chosen settings.Log value) =
    option_map (λ v. record kept { log = Some v }) (first_of (may_be (chosen settings.Log value)) kept.log value)
put kept (chosen settings.Edges value) =
    option_map (λ v. record kept { edges = Some v }) (first_of (may_be (chosen settings.Edges value)) kept.edges value)
put kept (chosen settings.Seed value) =
    option_map (λ v. record kept { seed = Some v }) (first_of (may_be (chosen settings.Seed value)) kept.seed value)
put kept (named name) =
    if may_be (named name) && nat_lt (length kept.files) SCRIPTS then Some (record kept { files = kept.files ++ name ∷ [] }) else None

-- what is kept after all the parts: of each kind what was kept before, and then what the parts say
pub record Gathers (kept : Kept) (parts : List Part) (all : Kept) : Type 0 where
  pub vertices : option_to_list all.vertices ≡ option_to_list kept.vertices ++ values_in settings.Vertices parts
  pub ring : option_to_list all.ring ≡ option_to_list kept.ring ++ values_in settings.Ring parts
  pub shards : option_to_list all.shards ≡ option_to_list kept.shards ++ values_in settings.Shards parts
  pub log : option_to_list all.log ≡ option_to_list kept.log ++ values_in settings.Log parts
  pub edges : option_to_list all.edges ≡ option_to_list kept.edges ++ values_in settings.Edges parts
  pub seed : option_to_list all.seed ≡ option_to_list kept.seed ++ values_in settings.Seed parts
  pub files : all.files ≡ kept.files ++ files_in parts
  pub few : length all.files ≤ SCRIPTS

-- parts that the words write lead to this
pub record Collects (kept : Kept) (words : List (List ℕ)) (all : Kept) : Type 0 where
  pub parts : List Part
  pub written : Writes parts words
  pub gathers : Gathers kept parts all

-- the parts that the words write lead to this, and to nothing else
pub record Reads (kept : Kept) (words : List (List ℕ)) (answer : Option Kept) : Type 0 where
  pub some : IfSome answer (Collects kept words)
  pub alone : (all : Kept) → Collects kept words all → answer ≡ Some all

-- a step over the words: what reading the words behind leads to from there is what reading all of them leads to; fewer are left, and there are no more files
-- than there may be
abbrev pub StepsOver : Kept → List (List ℕ) → Option (Found × Bor (List (List ℕ))) → Type 0
StepsOver kept words None = Reads kept words None
StepsOver kept words (Some (found, rest)) = ((answer : Option Kept) → Reads (kept_of found) rest.now answer → Reads kept words answer)
    × (length rest.now < length words) × (length kept.files ≤ SCRIPTS → length (kept_of found).files ≤ SCRIPTS)

-- what is kept settles what is asked by a command
pub record Settles (command : List ℕ) (kept : Kept) (asked : Asked) : Type 0 where
  pub commanded : command_of asked.work ≡ command
  pub work : IsWork asked.work kept.files (option_to_list kept.edges) (option_to_list kept.seed)
  pub vertices : IsChosen (IsNumber 1 VERTEX_LIMIT) VERTICES (option_to_list kept.vertices) asked.setup.vertices
  pub ring : IsChosen IsRing RING (option_to_list kept.ring) asked.setup.ring
  pub shards : IsChosen (IsNumber 1 SHARD_LIMIT) SHARDS (option_to_list kept.shards) asked.setup.shards
  pub log : IsChosen IsText usual_log (option_to_list kept.log) asked.log

-- what is to be done, by its bytes
abbrev pub work_for : Job → Work
work_for (jobs.Drive names) = driving names
work_for (jobs.Generate edges seed) = generating edges seed

-- what is wanted, by its bytes
abbrev pub asked_for : Wanted → Asked
asked_for wanted = record { setup = wanted.setup; work = work_for wanted.job; log = wanted.log.now }

abbrev pub asked_in : Option Wanted → Option Asked
asked_in wanted = option_map asked_for wanted

-- this is what is settled, and nothing else is
pub record IsSettled (command : List ℕ) (kept : Kept) (asked : Option Asked) : Type 0 where
  pub some : IfSome asked (Settles command kept)
  pub alone : (other : Asked) → Settles command kept other → asked ≡ Some other

-- this is the one thing that is to be done by what was found
pub record IsOneWork (command : List ℕ) (files : List (List ℕ)) (edges seed : Option (List ℕ)) (answer : Option Work) : Type 0 where
  pub some : IfSome answer (λ work. (command_of work ≡ command) × IsWork work files (option_to_list edges) (option_to_list seed))
  pub alone : (other : Work) → command_of other ≡ command → IsWork other files (option_to_list edges) (option_to_list seed) → answer ≡ Some other

-- this is the one number that a value, or none, chooses
pub record IsOneNumber (Means : List ℕ → ℕ → Type 0) (usual : ℕ) (value : Option (List ℕ)) (answer : Option ℕ) : Type 0 where
  pub some : IfSome answer (IsChosen Means usual (option_to_list value))
  pub alone : (other : ℕ) → IsChosen Means usual (option_to_list value) other → answer ≡ Some other

-- this is the one number that a value gives
pub record IsOneGiven (Means : List ℕ → ℕ → Type 0) (value : Option (List ℕ)) (answer : Option ℕ) : Type 0 where
  pub some : IfSome answer (IsGiven Means (option_to_list value))
  pub alone : (other : ℕ) → IsGiven Means (option_to_list value) other → answer ≡ Some other

-- the word of a command
abbrev pub word_of_verb : Verb → List ℕ
word_of_verb verbs.Drive = codes "drive"
word_of_verb verbs.Generate = codes "gen"
