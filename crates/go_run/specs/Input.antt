-- What the named texts ask for: what each session is to do, or the first refusal.
use Rattle.std.specs.Prelude.{◌≡◌, ◌⊎◌, ℕ, ◌+◌, ◌<◌, ◌≤◌, if◌then◌else◌, List, [], ◌∷◌, length, map, take, drop, slice_get, slice_set, sum_by, codes}
use Rattle.std.specs.Prelude.{nat_lt, Option, Some, None, Result, Ok, Err}
use Rattle.std.specs.List.{flat_map}
use Rattle.std.specs.Str.{bytes_eq}
use Rattle.go_text.specs.Steps.{◌>>=◌}
use Rattle.go_text.specs.declared.faults.FaultKind.TheVariants as kinds
use Rattle.go_word.specs.declared.edge.Edge.{Edge}
use Rattle.go_api.specs.declared.limits.TheConstants.{LOG_ENTRIES}
use Rattle.go_loader.specs.EdgeFile.{items_of, reader_of}
use Rattle.go_loader.specs.Generated.{generated}
use Rattle.go_loader.specs.Reading.{entries_from}
use Rattle.go_loader.specs.declared.fault.LoadFault.{LoadFault}
use Rattle.go_loader.specs.declared.fault.LoadFault.TheVariants as load_faults
use Rattle.go_script.specs.declared.command.Command.{Command}
use Rattle.go_script.specs.declared.command.Command.TheVariants.{Load, View, Rank, Bfs, Stream, Sync, Compact, Degree}
use Rattle.go_script.specs.declared.step.Step.{Step}
use Rattle.go_script.specs.declared.until.Place.{Place}
use Rattle.go_script.specs.declared.fault.ScriptFault.{ScriptFault}
use Rattle.go_script.specs.declared.fault.ScriptFault.TheVariants as script_faults
use Rattle.go_script.specs.Commands.{commands_of}
use Rattle.go_script.specs.Grammar.{script_of}
use Rattle.go_script.specs.Until.{loads_in, KeepsUntil, IsFirstAgainst}
use Rattle.go_session.specs.Asked.{asked_with, may_put}
use Rattle.go_run.specs.Work.{Work}
use Rattle.go_run.specs.Work.Work.{driving, generating}
use Rattle.go_run.specs.declared.status.Status.{Status}
use Rattle.go_run.specs.declared.status.Status.TheVariants.{Script, NoFile, TooMuch, Memory}
use Rattle.go_run.specs.declared.limits.TheConstants.{TEXT_BYTES}

-- which bytes stand under which name
abbrev pub Texts : Type 0
Texts = List ℕ → Option (List ℕ)

-- what a run reads: the text of each script's file, by the number of the file, since one that is named twice is read twice; and the text of each name that
-- a script loads
pub record Read : Type 0 where
  pub files : List (Option (List ℕ))
  pub named : Texts

-- what a session is to do: its commands, and the entries that each of its loads puts
pub record Task : Type 0 where
  pub commands : List Command
  pub lists : List (List Edge)

-- how many entries a task may put, each offer's counted, and how many tasks may together
abbrev pub task_count : Task → ℕ
task_count task = length (may_put (asked_with task.commands task.lists))

abbrev pub count_of : List Task → ℕ
count_of tasks = sum_by task_count tasks

-- the text under a name, where it is there and within the limit of bytes; of one over it one byte is counted
abbrev pub text_under : List ℕ → Option (List ℕ) → Result (List ℕ) Status
text_under name None = Err (NoFile name)
text_under name (Some text) = if nat_lt TEXT_BYTES (length text) then Err (TooMuch (TEXT_BYTES + 1) TEXT_BYTES) else Ok text

-- the steps of a script that was read, or the refusal that tells its first fault
abbrev pub steps_or : List ℕ → Result (List Step) ScriptFault → Result (List Step) Status
steps_or name (Ok steps) = Ok steps
steps_or name (Err (script_faults.Line line kind)) = Err (Script name line kind)
steps_or name (Err script_faults.Memory) = Err Memory

-- the entries of an edge file that was read, or the refusal that tells its first fault
abbrev pub entries_or : List ℕ → Result (List Edge) LoadFault → Result (List Edge) Status
entries_or name (Ok edges) = Ok edges
entries_or name (Err (load_faults.Line line kind)) = Err (Script name line kind)
entries_or name (Err load_faults.Memory) = Err Memory

-- the script in a file, and the scripts in all files, or the refusal of the first that is refused
abbrev pub script_under : ℕ → List ℕ → Option (List ℕ) → Result (List Step) Status
script_under v name text = text_under name text >>= λ bytes. steps_or name (script_of v bytes)

abbrev pub scripts_under : ℕ → List (List ℕ) → List (Option (List ℕ)) → Result (List (List Step)) Status
scripts_under v [] files = Ok []
scripts_under v (name ∷ names) [] = Err (NoFile name)
scripts_under v (name ∷ names) (text ∷ files) =
    script_under v name text >>= λ steps. scripts_under v names files >>= λ more. Ok (steps ∷ more)

-- the names that commands load, in order
abbrev pub name_loaded : Command → List (List ℕ)
name_loaded (Load name) = name ∷ []
name_loaded _ = []

abbrev pub names_loaded : List (List Step) → List (List ℕ)
names_loaded scripts = flat_map (λ steps. flat_map name_loaded (commands_of steps)) scripts

-- the entries under a name, and those under several, or the refusal of the first that is refused
abbrev pub entries_under : ℕ → Texts → List ℕ → Result (List Edge) Status
entries_under v named name = text_under name (named name) >>= λ bytes. entries_or name (entries_from (reader_of v bytes) 1 (items_of bytes))

abbrev pub lists_under : ℕ → Texts → List (List ℕ) → Result (List (List Edge)) Status
lists_under v named [] = Ok []
lists_under v named (name ∷ names) =
    entries_under v named name >>= λ edges. lists_under v named names >>= λ more. Ok (edges ∷ more)

-- the tasks of scripts, where these are the lists of all their loads, by script and line
abbrev pub tasks_of : List (List Step) → List (List Edge) → List Task
tasks_of [] lists = []
tasks_of (steps ∷ scripts) lists =
    let count = loads_in (commands_of steps) in
    record { commands = commands_of steps; lists = take count lists } ∷ tasks_of scripts (drop count lists)

-- how many entries each list has
abbrev pub counts_of : List (List Edge) → List ℕ
counts_of lists = map length lists

-- scripts that were read with their lists are judged together: no `until` waits for more than is certain to come, and they don't put too much
abbrev pub IsJudged : List (List ℕ) → List (List Step) → List (List Edge) → Result (List Task) Status → Type 0
IsJudged names scripts lists (Ok tasks) =
    (tasks ≡ tasks_of scripts lists) × KeepsUntil scripts (counts_of lists) × (count_of tasks ≤ LOG_ENTRIES)
IsJudged names scripts lists (Err (Script name line kinds.Until)) =
    (place : Place) × IsFirstAgainst scripts (counts_of lists) place × (slice_get names place.script ≡ Some name) × (line ≡ place.line)
IsJudged names scripts lists (Err (TooMuch counted limit)) =
    KeepsUntil scripts (counts_of lists) × (LOG_ENTRIES < count_of (tasks_of scripts lists)) × (counted ≡ count_of (tasks_of scripts lists))
    × (limit ≡ LOG_ENTRIES)
IsJudged names scripts lists _ = ⊥

-- the same, where reading the lists, or the scripts before them, may have been refused
abbrev pub IsWithLists : List (List ℕ) → List (List Step) → Result (List (List Edge)) Status → Result (List Task) Status → Type 0
IsWithLists names scripts (Ok lists) result = IsJudged names scripts lists result
IsWithLists names scripts (Err status) result = result ≡ Err status

abbrev pub IsWithScripts : ℕ → List (List ℕ) → Texts → Result (List (List Step)) Status → Result (List Task) Status → Type 0
IsWithScripts v names named (Ok scripts) result = IsWithLists names scripts (lists_under v named (names_loaded scripts)) result
IsWithScripts v names named (Err status) result = result ≡ Err status

-- what scripts under these names ask for over v vertices: the first refusal is that of a file, in their order; then of a name that is loaded, by script and
-- line; then of an `until`; then of the number of puts
abbrev pub IsInput : ℕ → List (List ℕ) → Read → Result (List Task) Status → Type 0
IsInput v names read result = IsWithScripts v names read.named (scripts_under v names read.files) result

-- the name under which the script over generated entries loads them
abbrev pub generated_name : List ℕ
generated_name = codes "@gen"

-- that script
abbrev pub generating_commands : List Command
generating_commands =
    Load generated_name ∷ View 0 ∷ Rank 0 5 ∷ Bfs 0 0 ∷ Stream 1 ∷ Sync ∷ Compact ∷ Degree 0 0 ∷ []

-- what is asked for by what the program is to do
abbrev pub IsInputOf : ℕ → Work → Read → Result (List Task) Status → Type 0
IsInputOf v (driving names) read result = IsInput v names read result
IsInputOf v (generating count seed) read result =
    result ≡ Ok (record { commands = generating_commands; lists = generated count seed v ∷ [] } ∷ [])

-- what is read where one text more isn't there: that of a file of this name, or that of a name that is loaded
abbrev pub Hides : List (List ℕ) → Read → List ℕ → Read → Type 0
Hides names read name hidden =
    ((i : ℕ) × (slice_get names i ≡ Some name) × (hidden ≡ record read { files = slice_set read.files i None }))
    ⊎ (hidden ≡ record read { named = λ other. if bytes_eq other name then None else read.named other })

-- reading the text of a name failed: all that comes before it is right, since the name would be the first refusal if it weren't there
abbrev pub IsReadTo : ℕ → Work → Read → List ℕ → Type 0
IsReadTo v (driving names) read name = (hidden : Read) × Hides names read name hidden × IsInput v names hidden (Err (NoFile name))
IsReadTo v (generating count seed) read name = ⊥
