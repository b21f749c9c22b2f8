-- What a session keeps beside what it stands for: how many lists its answered loads have put.
use Rattle.std.specs.Prelude.{◌≡◌, ℕ, ◌≤◌, List, length, take}
use Rattle.go_script.specs.declared.command.Command.{Command}
use Rattle.go_script.specs.Until.{loads_in}
use Rattle.go_report.specs.declared.reply.Reply.{Reply}

-- each load of the script has a list, no more of it was answered than there is, and the answered loads are counted
pub record KeepsCount (commands : List Command) (lists : List ℕ) (replies : List Reply) (loaded : ℕ) : Type 0 where
  pub some : length replies ≤ length commands
  pub all : length lists ≡ loads_in commands
  pub count : loaded ≡ loads_in (take (length replies) commands)
