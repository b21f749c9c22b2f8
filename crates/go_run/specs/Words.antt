-- What the words of the command line ask for.
use Rattle.std.specs.Prelude.{◌≡◌, ◌⊎◌, ℕ, ◌≤◌, Bool, true, false, not, ◌==◌, IsTrue}
use Rattle.std.specs.Prelude.{length, List, [], ◌∷◌, ◌++◌, codes, Option, Some, None, Ok, IfSome, option_to_list}
use Rattle.std.specs.Prelude.{option_map}
use Rattle.std.specs.Int.{IsPowerOfTwo}
use Rattle.go_text.specs.Number.{number_of}
use Rattle.go_word.specs.declared.edge.TheConstants.{VERTEX_LIMIT}
use Rattle.go_api.specs.declared.limits.TheConstants.{FEWEST_SLOTS, SLOT_LIMIT, SHARD_LIMIT}
use Rattle.go_api.specs.declared.setup.Setup.{Setup}
use Rattle.go_run.specs.declared.limits.TheConstants.{VERTICES, RING, SHARDS, SCRIPTS, EDGES, SEED_LIMIT}
use Rattle.go_run.specs.Work.{Work}
use Rattle.go_run.specs.Work.Work.{driving, generating}
use Rattle.go_run.specs.declared.setting.Setting.{Setting}
use Rattle.go_run.specs.declared.setting.Setting.TheVariants as settings

-- the word begins with a dash
abbrev pub has_dash : List ℕ → Bool
has_dash [] = false
has_dash (byte ∷ word) = byte == 45

-- the word may be a value: it isn't empty and doesn't begin with a dash
abbrev pub is_value : List ℕ → Bool
is_value [] = false
is_value (byte ∷ word) = not (byte == 45)

-- the word that names a setting
abbrev pub name_of : Setting → List ℕ
name_of settings.Vertices = codes "--vertices"
name_of settings.Ring = codes "--ring"
name_of settings.Shards = codes "--shards"
name_of settings.Log = codes "--log"
name_of settings.Edges = codes "--edges"
name_of settings.Seed = codes "--seed"

-- one thing that words say: that this value is chosen for a setting, or that a file has this name
pub data Part : Type 0 where
  chosen : Setting → List ℕ → Part
  named : List ℕ → Part

-- a value isn't empty, and neither it nor a file's name begins with a dash
abbrev pub may_be : Part → Bool
may_be (chosen setting value) = is_value value
may_be (named name) = not (has_dash name)

-- how a part is spelt: a value stands behind the word of its setting, or in the same word behind an equals sign; a file's name stands alone
abbrev pub Spells : Part → List (List ℕ) → Type 0
Spells (chosen setting value) words = (words ≡ name_of setting ∷ value ∷ []) ⊎ (words ≡ (name_of setting ++ 61 ∷ value) ∷ [])
Spells (named name) words = words ≡ name ∷ []

-- the words write this part and then these others
pub record WritesFirst (part : Part) (words others : List (List ℕ)) : Type 0 where
  pub first : List (List ℕ)
  pub spelt : Spells part first
  pub may : IsTrue (may_be part)
  pub split : words ≡ first ++ others

-- the words write the parts, one after the other
abbrev pub Writes : List Part → List (List ℕ) → Type 0
Writes [] words = words ≡ []
Writes (part ∷ parts) words = (others : List (List ℕ)) × WritesFirst part words others × Writes parts others

-- the value that a part chooses for the setting, if it does
abbrev pub value_in : Setting → Part → Option (List ℕ)
value_in settings.Vertices (chosen settings.Vertices value) = Some value
value_in settings.Ring (chosen settings.Ring value) = Some value
value_in settings.Shards (chosen settings.Shards value) = Some value
value_in settings.Log (chosen settings.Log value) = Some value
value_in settings.Edges (chosen settings.Edges value) = Some value
value_in settings.Seed (chosen settings.Seed value) = Some value
value_in _ _ = None

-- the file that a part names, if it does
abbrev pub file_in : Part → Option (List ℕ)
file_in (named name) = Some name
file_in (chosen setting value) = None

-- the values that the parts choose for the setting
abbrev pub values_in : Setting → List Part → List (List ℕ)
values_in setting [] = []
values_in setting (part ∷ parts) = option_to_list (value_in setting part) ++ values_in setting parts

-- the files that the parts name
abbrev pub files_in : List Part → List (List ℕ)
files_in [] = []
files_in (part ∷ parts) = option_to_list (file_in part) ++ files_in parts

-- where no value is chosen it is the usual one; where one is, it is what the value means; and no more than one is chosen
abbrev pub IsChosen : {A : Type 0} → (List ℕ → A → Type 0) → A → List (List ℕ) → A → Type 0
IsChosen Means usual [] it = it ≡ usual
IsChosen Means usual (value ∷ []) it = Means value it
IsChosen Means usual (value ∷ other ∷ values) it = ⊥

-- just one value is chosen, and it is what the value means
abbrev pub IsGiven : {A : Type 0} → (List ℕ → A → Type 0) → List (List ℕ) → A → Type 0
IsGiven Means [] it = ⊥
IsGiven Means (value ∷ []) it = Means value it
IsGiven Means (value ∷ other ∷ values) it = ⊥

-- the value is the number in decimal digits, and the number is within these limits
abbrev pub IsNumber : ℕ → ℕ → List ℕ → ℕ → Type 0
IsNumber least most value n = (number_of most value ≡ Ok n) × (least ≤ n)

-- the value is a number of slots that a ring may have
abbrev pub IsRing : List ℕ → ℕ → Type 0
IsRing value n = IsNumber FEWEST_SLOTS SLOT_LIMIT value n × IsPowerOfTwo n

-- the value is the text itself
abbrev pub IsText : List ℕ → List ℕ → Type 0
IsText value text = text ≡ value

-- the name of the log file where none is chosen
abbrev pub usual_log : List ℕ
usual_log = codes "graph.log"

-- what is asked for: the numbers of a store, what the program is to do, and the name of a log file
pub record Asked : Type 0 where
  pub setup : Setup
  pub work : Work
  pub log : List ℕ

-- the word that asks for it
abbrev pub command_of : Work → List ℕ
command_of (driving names) = codes "drive"
command_of (generating count seed) = codes "gen"

-- it is asked for by these files, and these values of `--edges` and `--seed`: some scripts, and not too many, or entries that are generated
abbrev pub IsWork : Work → List (List ℕ) → List (List ℕ) → List (List ℕ) → Type 0
IsWork (driving names) files edges seeds = (files ≡ names) × (1 ≤ length files) × (length files ≤ SCRIPTS) × (edges ≡ []) × (seeds ≡ [])
IsWork (generating count seed) files edges seeds =
    (files ≡ []) × IsGiven (IsNumber 1 EDGES) edges count × IsGiven (IsNumber 0 SEED_LIMIT) seeds seed

-- behind a command the words write parts
pub record WritesBehind (command : List ℕ) (parts : List Part) (words : List (List ℕ)) : Type 0 where
  pub others : List (List ℕ)
  pub begins : words ≡ command ∷ others
  pub written : Writes parts others

-- the words ask for this: behind the command they write parts, in any order, that choose no setting twice, and each thing is what is chosen or the usual one
pub record Asks (words : List (List ℕ)) (asked : Asked) : Type 0 where
  pub parts : List Part
  pub written : WritesBehind (command_of asked.work) parts words
  pub work : IsWork asked.work (files_in parts) (values_in settings.Edges parts) (values_in settings.Seed parts)
  pub vertices : IsChosen (IsNumber 1 VERTEX_LIMIT) VERTICES (values_in settings.Vertices parts) asked.setup.vertices
  pub ring : IsChosen IsRing RING (values_in settings.Ring parts) asked.setup.ring
  pub shards : IsChosen (IsNumber 1 SHARD_LIMIT) SHARDS (values_in settings.Shards parts) asked.setup.shards
  pub log : IsChosen IsText usual_log (values_in settings.Log parts) asked.log

-- this is what the words ask for, and nothing else is; where it is nothing, they ask for nothing
pub record IsAskedBy (words : List (List ℕ)) (asked : Option Asked) : Type 0 where
  pub asks : IfSome asked (Asks words)
  pub alone : (other : Asked) → Asks words other → asked ≡ Some other

-- this holds of what the words ask for
pub record OverAsked (words : List (List ℕ)) (Holds : Option Asked → Type 0) : Type 0 where
  pub asked : Option Asked
  pub is_asked : IsAskedBy words asked
  pub holds : Holds asked

-- the numbers of the store that are asked for, or usual
abbrev pub setup_asked : Option Asked → Setup
setup_asked None = record { vertices = VERTICES; ring = RING; shards = SHARDS }
setup_asked (Some asked) = asked.setup

-- what the program is to do
abbrev pub work_asked : Option Asked → Option Work
work_asked asked = option_map (λ it. it.work) asked

-- the log file's name
abbrev pub log_asked : Option Asked → Option (List ℕ)
log_asked asked = option_map (λ it. it.log) asked
