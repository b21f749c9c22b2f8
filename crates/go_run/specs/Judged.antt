-- How scripts that were read are judged with their lists, and the sessions that are made of them.
use Rattle.std.specs.Prelude.{◌≡◌, ◌⊎◌, ℕ, ◌+◌, ◌≤◌, Bool, true, false, List, [], ◌∷◌, take, drop, count_by, sum_by, Result, Ok, Err}
use Rattle.go_word.specs.declared.edge.Edge.{Edge}
use Rattle.go_api.specs.declared.limits.TheConstants.{LOG_ENTRIES}
use Rattle.go_script.specs.declared.command.Command.{Command}
use Rattle.go_script.specs.declared.puts.Puts.{Puts}
use Rattle.go_script.specs.declared.puts.Puts.TheVariants.{Nothing, Entry, Offered, Listed}
use Rattle.go_script.specs.declared.step.Step.{Step}
use Rattle.go_script.specs.Commands.{commands_of, put_by}
use Rattle.go_script.specs.Until.{loads_in, KeepsUntil}
use Rattle.go_session.specs.Session.{SessionState, unanswered}
use Rattle.go_run.specs.Input.{IsJudged, tasks_of, counts_of, count_of}
use Rattle.go_run.specs.declared.status.Status.{Status}
use Rattle.go_run.specs.declared.status.Status.TheVariants.{Memory}

-- what is put is one entry, certainly or if there is room
abbrev pub is_single : Puts → Bool
is_single Nothing = false
is_single (Entry edge) = true
is_single (Offered edge) = true
is_single Listed = false

-- how many entries the commands of a script may put, but for those of its loads
abbrev pub singles_in : List Step → ℕ
singles_in steps = count_by (λ command. is_single (put_by command)) (commands_of steps)

-- how many loads a script has, and how many scripts have
abbrev pub loads_of : List Step → ℕ
loads_of steps = loads_in (commands_of steps)

abbrev pub loads_of_all : List (List Step) → ℕ
loads_of_all scripts = sum_by loads_of scripts

-- scripts with lists are right
pub record IsRight (scripts : List (List Step)) (lists : List (List Edge)) : Type 0 where
  pub until : KeepsUntil scripts (counts_of lists)
  pub few : count_of (tasks_of scripts lists) ≤ LOG_ENTRIES

-- the status is the refusal of scripts with lists, or want of memory
abbrev pub IsWrong : List (List ℕ) → List (List Step) → List (List Edge) → Status → Type 0
IsWrong names scripts lists status = IsJudged names scripts lists (Err status) ⊎ (status ≡ Memory)

-- the sessions of scripts, numbered from this number on, where these are the numbers of the lists of all their loads
abbrev pub sessions_of : ℕ → List (List Step) → List ℕ → List SessionState
sessions_of number [] lists = []
sessions_of number (steps ∷ scripts) lists =
    unanswered number (commands_of steps) (take (loads_of steps) lists) ∷ sessions_of (number + 1) scripts (drop (loads_of steps) lists)
