-- What the commands of a session ask for: each with the entries that it puts.
use Rattle.std.specs.Prelude.{ℕ, Bool, true, false, if◌then◌else◌, List, [], ◌∷◌, ◌++◌, map, slice_index_or}
use Rattle.std.specs.List.{flat_map}
use Rattle.go_word.specs.declared.edge.Edge.{Edge}
use Rattle.go_script.specs.Commands.{put_by}
use Rattle.go_script.specs.declared.command.Command.{Command}
use Rattle.go_script.specs.declared.puts.Puts.{Puts}
use Rattle.go_script.specs.declared.puts.Puts.TheVariants.{Nothing, Entry, Offered, Listed}
use Rattle.go_report.specs.declared.reply.Reply.{Reply}
use Rattle.go_report.specs.declared.reply.Reply.TheVariants.{Busy}

-- a command, and the entries that it puts
pub record Asked : Type 0 where
  pub command : Command
  pub entries : List Edge

-- the entries that are put, where these lists are left for a load and those after it
abbrev pub entries_given : Puts → List (List Edge) → List Edge
entries_given Nothing lists = []
entries_given (Entry edge) lists = edge ∷ []
entries_given (Offered edge) lists = edge ∷ []
entries_given Listed [] = []
entries_given Listed (list ∷ lists) = list

-- the lists that are left then
abbrev pub lists_after : Puts → List (List Edge) → List (List Edge)
lists_after Nothing lists = lists
lists_after (Entry edge) lists = lists
lists_after (Offered edge) lists = lists
lists_after Listed [] = []
lists_after Listed (list ∷ lists) = lists

-- commands with what they put: each load in turn has the next list
abbrev pub asked_with : List Command → List (List Edge) → List Asked
asked_with [] lists = []
asked_with (command ∷ commands) lists =
    record { command = command; entries = entries_given (put_by command) lists } ∷ asked_with commands (lists_after (put_by command) lists)

-- the lists of these numbers among those that were loaded
abbrev pub lists_of : List (List Edge) → List ℕ → List (List Edge)
lists_of loads numbers = map (λ n. slice_index_or loads n []) numbers

-- the entries that commands may put, each offer's among them
abbrev pub may_put : List Asked → List Edge
may_put asked = flat_map (λ a. a.entries) asked

-- whether a reply says that nothing was put
abbrev pub is_busy : Reply → Bool
is_busy (Busy head released) = true
is_busy _ = false

-- the entries that were put by the commands that have replies: those of all of them, but for offers to which the ring was busy
abbrev pub put_by_answered : List Asked → List Reply → List Edge
put_by_answered [] replies = []
put_by_answered (a ∷ asked) [] = []
put_by_answered (a ∷ asked) (reply ∷ replies) = (if is_busy reply then [] else a.entries) ++ put_by_answered asked replies
