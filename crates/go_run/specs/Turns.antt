-- Sessions that take turns, as plain lists: what stays of each, how far all have come, and when none can go on.
use Rattle.std.specs.Prelude.{◌≡◌, ◌⊎◌, ℕ, ◌-◌, ◌<◌, List, length, slice_get, Some, sum_by}
use Rattle.go_word.specs.declared.edge.Edge.{Edge}
use Rattle.go_script.specs.declared.command.Command.{Command}
use Rattle.go_script.specs.declared.command.Command.TheVariants.{Until}
use Rattle.go_session.specs.Session.{SessionState, put_in}

-- what no turn changes of a session: its number, its commands, and the numbers of the lists that its loads put
pub record Aim : Type 0 where
  pub number : ℕ
  pub commands : List Command
  pub lists : List ℕ

abbrev pub aim_of : SessionState → Aim
aim_of session = record { number = session.number; commands = session.commands; lists = session.lists }

-- how many entries sessions have put together, as their replies tell
abbrev pub total_put : List (List Edge) → List SessionState → ℕ
total_put loads sessions = sum_by (λ session. length (put_in loads session)) sessions

-- how many commands sessions have still to answer
abbrev pub commands_left : List SessionState → ℕ
commands_left sessions = sum_by (λ session. length session.commands - length session.replies) sessions

-- all commands were answered
abbrev pub HasDone : SessionState → Type 0
HasDone session = length session.replies ≡ length session.commands

-- the next command waits for more entries than were put
abbrev pub WaitsFor : ℕ → SessionState → Type 0
WaitsFor put session = (asked : ℕ) × (slice_get session.commands (length session.replies) ≡ Some (Until asked)) × (put < asked)

-- where so many entries were put and no session puts more, this one answers no command any more
abbrev pub IsQuiet : ℕ → SessionState → Type 0
IsQuiet put session = HasDone session ⊎ WaitsFor put session
