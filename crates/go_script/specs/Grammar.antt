-- The grammar of scripts: how the words of a line are read as a command, and the lines of a text as steps.
use Rattle.std.specs.Prelude.{◌≡◌, ℕ, ◌+◌, ◌-◌, ◌==◌, List, [], ◌∷◌, ◌++◌, Option, Some, None, Result, Ok, Err, codes, if◌then◌else◌}
use Rattle.std.specs.Str.{bytes_eq, is_utf8}
use Rattle.std.specs.Str.Lines.{lines}
use Rattle.go_api.specs.declared.place.TheConstants.{PLACES}
use Rattle.go_api.specs.declared.limits.TheConstants.{LOG_ENTRIES}
use Rattle.go_text.specs.Word.{words}
use Rattle.go_text.specs.declared.faults.FaultKind.{FaultKind}
use Rattle.go_text.specs.declared.faults.FaultKind.TheVariants.{Word, Count, Number, Name, Place}
use Rattle.go_script.specs.declared.limits.TheConstants.{RANK_LIMIT, UPDATE_LIMIT}
use Rattle.go_script.specs.declared.command.Command.{Command}
use Rattle.go_script.specs.declared.command.Command.TheVariants as commands
use Rattle.go_script.specs.declared.arguments.Ends.{Ends}
use Rattle.go_script.specs.declared.arguments.Asked.{Asked}
use Rattle.go_script.specs.declared.arguments.Share.{Share}
use Rattle.go_script.specs.declared.arguments.Pair.{Pair}
use Rattle.go_script.specs.declared.step.Step.{Step}
use Rattle.go_script.specs.declared.fault.ScriptFault.{ScriptFault}
use Rattle.go_script.specs.declared.fault.ScriptFault.TheVariants.{Line, Memory}
use Rattle.go_text.specs.Arguments.{number_in, vertex_in}
use Rattle.go_script.specs.Places.{finds_place}
use Rattle.go_text.specs.Steps.{◌>>=◌}
use Rattle.go_text.specs.Texts.{is_skipped}

-- the place that a word names: below the number of places
abbrev pub place_in : List ℕ → Result ℕ FaultKind
place_in word = number_in (PLACES - 1) word

-- the count that a word writes: from 1 to the limit
abbrev pub count_in : ℕ → List ℕ → Result ℕ FaultKind
count_in limit word = number_in limit word >>= λ n. if n == 0 then Err Number else Ok n

-- the name that a word is, where it is UTF-8
abbrev pub name_in : List ℕ → Result (List ℕ) FaultKind
name_in word = if is_utf8 word then Ok word else Err Name

-- the arguments of a line: the two vertices of an edge
abbrev pub ends_of : ℕ → List (List ℕ) → Result Ends FaultKind
ends_of v (src ∷ dst ∷ []) = vertex_in v src >>= λ s. vertex_in v dst >>= λ d. Ok (record { src = s; dst = d })
ends_of v _ = Err Count

-- a name
abbrev pub name_of : List (List ℕ) → Result (List ℕ) FaultKind
name_of (name ∷ []) = name_in name
name_of _ = Err Count

-- a place
abbrev pub place_of : List (List ℕ) → Result ℕ FaultKind
place_of (place ∷ []) = place_in place
place_of _ = Err Count

-- a place and a vertex
abbrev pub vertex_of : ℕ → List (List ℕ) → Result Asked FaultKind
vertex_of v (place ∷ vertex ∷ []) = place_in place >>= λ k. vertex_in v vertex >>= λ s. Ok (record { place = k; vertex = s })
vertex_of v _ = Err Count

-- a place, a root and a vertex
abbrev pub pair_of : ℕ → List (List ℕ) → Result Pair FaultKind
pair_of v (place ∷ root ∷ vertex ∷ []) =
    place_in place >>= λ k. vertex_in v root >>= λ r. vertex_in v vertex >>= λ s. Ok (record { place = k; root = r; vertex = s })
pair_of v _ = Err Count

-- a place and a count up to a limit
abbrev pub share_of : ℕ → List (List ℕ) → Result Share FaultKind
share_of limit (place ∷ count ∷ []) = place_in place >>= λ k. count_in limit count >>= λ n. Ok (record { place = k; count = n })
share_of limit _ = Err Count

-- a number of entries
abbrev pub entries_of : List (List ℕ) → Result ℕ FaultKind
entries_of (asked ∷ []) = number_in LOG_ENTRIES asked
entries_of _ = Err Count

-- none, for a command that is its word alone
abbrev pub alone : Command → List (List ℕ) → Result Command FaultKind
alone command [] = Ok command
alone command (argument ∷ more) = Err Count

-- the command that a word asks for, with its arguments, where it is none that names a file
abbrev pub plain_of : ℕ → List ℕ → List (List ℕ) → Result Command FaultKind
plain_of v word arguments =
    if bytes_eq word (codes "add") then (ends_of v arguments >>= λ e. Ok (commands.Add e.src e.dst))
    else (if bytes_eq word (codes "del") then (ends_of v arguments >>= λ e. Ok (commands.Del e.src e.dst))
    else (if bytes_eq word (codes "offer") then (ends_of v arguments >>= λ e. Ok (commands.Offer e.src e.dst))
    else (if bytes_eq word (codes "view") then (place_of arguments >>= λ k. Ok (commands.View k))
    else (if bytes_eq word (codes "drop") then (place_of arguments >>= λ k. Ok (commands.Drop k))
    else (if bytes_eq word (codes "degree") then (vertex_of v arguments >>= λ a. Ok (commands.Degree a.place a.vertex))
    else (if bytes_eq word (codes "neigh") then (vertex_of v arguments >>= λ a. Ok (commands.Neigh a.place a.vertex))
    else (if bytes_eq word (codes "hop") then (vertex_of v arguments >>= λ a. Ok (commands.Hop a.place a.vertex))
    else (if bytes_eq word (codes "level") then (pair_of v arguments >>= λ p. Ok (commands.Level p.place p.root p.vertex))
    else (if bytes_eq word (codes "bfs") then (vertex_of v arguments >>= λ a. Ok (commands.Bfs a.place a.vertex))
    else (if bytes_eq word (codes "rank") then (share_of RANK_LIMIT arguments >>= λ s. Ok (commands.Rank s.place s.count))
    else (if bytes_eq word (codes "stream") then (place_of arguments >>= λ k. Ok (commands.Stream k))
    else (if bytes_eq word (codes "close") then (place_of arguments >>= λ k. Ok (commands.Close k))
    else (if bytes_eq word (codes "update") then (share_of UPDATE_LIMIT arguments >>= λ s. Ok (commands.Update s.place s.count))
    else (if bytes_eq word (codes "until") then (entries_of arguments >>= λ n. Ok (commands.Until n))
    else (if bytes_eq word (codes "sync") then alone commands.Sync arguments
    else (if bytes_eq word (codes "compact") then alone commands.Compact arguments
    else Err Word))))))))))))))))

-- `load` has a name
abbrev pub load_of : List (List ℕ) → Result Command FaultKind
load_of arguments = name_of arguments >>= λ name. Ok (commands.Load name)

-- the command that a word asks for, with its arguments
abbrev pub asked_of : ℕ → List ℕ → List (List ℕ) → Result Command FaultKind
asked_of v word arguments =
    if bytes_eq word (codes "load") then load_of arguments else plain_of v word arguments

-- the command that the words of a line write: the first one names it, the others are its arguments
abbrev pub command_of : ℕ → List (List ℕ) → Result Command FaultKind
command_of v [] = Err Word
command_of v (word ∷ arguments) = asked_of v word arguments

-- a command that finds its place as it needs it after the commands before
abbrev pub placed : List Command → Command → Result Command FaultKind
placed before command = if finds_place before command then Ok command else Err Place

-- the command that a line with these words writes after the commands before, where the line isn't skipped
abbrev pub command_after : ℕ → List Command → List (List ℕ) → Result Command FaultKind
command_after v before words = command_of v words >>= placed before

-- what a line with these words writes after the commands before: nothing where it is skipped, else a command
abbrev pub line_of : ℕ → List Command → List (List ℕ) → Result (Option Command) FaultKind
line_of v before words = if is_skipped words then Ok None else command_after v before words >>= λ command. Ok (Some command)

-- the command of line n and what comes after it, or that line's fault
abbrev pub at_line : {A : Type 0} → ℕ → Result A FaultKind → Result A ScriptFault
at_line n (Ok x) = Ok x
at_line n (Err kind) = Err (Line n kind)

-- the steps of the lines after the commands before, numbered from n, or the first fault
abbrev pub script_from : ℕ → List Command → ℕ → List (List ℕ) → Result (List Step) ScriptFault
script_from v before n [] = Ok []
script_from v before n (line ∷ more) =
    if is_skipped (words line) then script_from v before (n + 1) more
    else (at_line n (command_after v before (words line)) >>= λ command.
    script_from v (before ++ command ∷ []) (n + 1) more >>= λ steps.
    Ok (record { line = n; command = command } ∷ steps))

-- the steps of a text, or its first fault; lines count from 1
abbrev pub script_of : ℕ → List ℕ → Result (List Step) ScriptFault
script_of v text = script_from v [] 1 (lines text)

-- what is answered for a text: its steps, or its first fault; want of memory tells nothing of it
abbrev pub Reads : ℕ → List ℕ → Result (List Step) ScriptFault → Type 0
Reads v text (Ok steps) = script_of v text ≡ Ok steps
Reads v text (Err (Line n kind)) = script_of v text ≡ Err (Line n kind)
Reads v text (Err Memory) = Unit {0}
