-- What the first commands of a script come to, and which of its commands asks for more than is certain to come.
use Rattle.std.specs.Prelude.{◌≡◌, ℕ, ◌+◌, ◌<◌, Bool, false, List, take, slice_get, Option, Some, None, is_some, nat_lt}
use Rattle.std.specs.List.{position_or_len}
use Rattle.go_script.specs.declared.command.Command.{Command}
use Rattle.go_script.specs.declared.step.Step.{Step}
use Rattle.go_script.specs.declared.tally.Tally.{Tally}
use Rattle.go_script.specs.Commands.{commands_of}
use Rattle.go_script.specs.Until.{Counted, asked_by, loads_in, certain_puts}

-- a script with its own files, which are the first ones of those that are left
abbrev pub session_of : List Step → List ℕ → Counted
session_of steps left = record { commands = commands_of steps; files = take (loads_in (commands_of steps)) left }

-- what the first n commands come to, where the files of the loads have so many entries
abbrev pub tally_at : List Command → List ℕ → ℕ → Tally
tally_at commands files n = record { at = n; loads = loads_in (take n commands); puts = certain_puts (take n commands) files }

-- a command waits
abbrev pub waits : Command → Bool
waits command = is_some (asked_by command)

-- where the first command stands that waits, or how many commands there are where none does
abbrev pub first_wait : List Command → ℕ
first_wait commands = position_or_len waits commands

-- what a command asks for, where it asks, is above a number of entries
abbrev pub asks_above : Option ℕ → ℕ → Bool
asks_above None certain = false
asks_above (Some asked) certain = nat_lt certain asked

-- command n asks for more than the commands before it and the others certainly put
pub record Exceeds (commands : List Command) (files : List ℕ) (others n : ℕ) : Type 0 where
  pub command : Command
  pub comes : slice_get commands n ≡ Some command
  pub asked : ℕ
  pub asks : asked_by command ≡ Some asked
  pub too_much : certain_puts (take n commands) files + others < asked

-- no command does
abbrev pub NeverExceeds : List Command → List ℕ → ℕ → Type 0
NeverExceeds commands files others = (n : ℕ) → Exceeds commands files others n → ⊥

-- the line is that of the first command that does
pub record FirstExceeds (steps : List Step) (files : List ℕ) (others line : ℕ) : Type 0 where
  pub n : ℕ
  pub step : Step
  pub comes : slice_get steps n ≡ Some step
  pub is_line : line ≡ step.line
  pub exceeds : Exceeds (commands_of steps) files others n
  pub first : (m : ℕ) → m < n → Exceeds (commands_of steps) files others m → ⊥
