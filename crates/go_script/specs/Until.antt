-- The rule on lines that wait: an `until` asks for no more entries than are certain to come while its session waits there.
use Rattle.std.specs.Prelude.{◌≡◌, ◌⊎◌, ℕ, ◌+◌, ◌<◌, Bool, true, false, List, [], ◌∷◌}
use Rattle.std.specs.Prelude.{take, drop, remove, slice_get, Option, Some, None, is_some, count_by, sum_by, sum}
use Rattle.std.specs.List.{before_first}
use Rattle.go_script.specs.declared.command.Command.{Command}
use Rattle.go_script.specs.declared.command.Command.TheVariants.{Until}
use Rattle.go_script.specs.declared.puts.Puts.{Puts}
use Rattle.go_script.specs.declared.puts.Puts.TheVariants.{Nothing, Entry, Offered, Listed}
use Rattle.go_script.specs.declared.until.Place.{Place}
use Rattle.go_script.specs.declared.step.Step.{Step}
use Rattle.go_script.specs.Commands.{put_by, commands_of}

-- what is put is one entry, which is certain
abbrev pub is_entry : Puts → Bool
is_entry Nothing = false
is_entry (Entry edge) = true
is_entry (Offered edge) = false
is_entry Listed = false

-- what is put is the entries of a file
abbrev pub is_listed : Puts → Bool
is_listed Nothing = false
is_listed (Entry edge) = false
is_listed (Offered edge) = false
is_listed Listed = true

-- for how many entries a command waits, where it waits
abbrev pub asked_by : Command → Option ℕ
asked_by (Until asked) = Some asked
asked_by _ = None

-- how many `load` lines commands have
abbrev pub loads_in : List Command → ℕ
loads_in commands = count_by (λ command. is_listed (put_by command)) commands

-- how many entries commands certainly put: each addition and each deletion one, and each load those of its file; the files have so many
abbrev pub certain_puts : List Command → List ℕ → ℕ
certain_puts commands files = count_by (λ command. is_entry (put_by command)) commands + sum (take (loads_in commands) files)

-- the commands of a session, and how many entries the files of its loads have
pub record Counted : Type 0 where
  pub commands : List Command
  pub files : List ℕ

-- each session with the files of its own loads, where all of them stand in one list by script and line
abbrev pub counted_of : List (List Step) → List ℕ → List Counted
counted_of [] files = []
counted_of (steps ∷ more) files =
    let loads = loads_in (commands_of steps) in
    record { commands = commands_of steps; files = take loads files } ∷ counted_of more (drop loads files)

-- how many entries a session certainly puts before it first waits, or in all where it never does
abbrev pub early_puts : Counted → ℕ
early_puts session = certain_puts (before_first (λ command. is_some (asked_by command)) session.commands) session.files

-- session i asks at its command n for more than is certain to come:
-- more than it certainly put before, and each other session before it first waits
pub record AsksTooMuch (sessions : List Counted) (i n : ℕ) : Type 0 where
  pub session : Counted
  pub there : slice_get sessions i ≡ Some session
  pub command : Command
  pub comes : slice_get session.commands n ≡ Some command
  pub asked : ℕ
  pub asks : asked_by command ≡ Some asked
  pub too_much : certain_puts (take n session.commands) session.files + sum_by early_puts (remove sessions i) < asked

-- no line is against the rule
abbrev pub KeepsUntil : List (List Step) → List ℕ → Type 0
KeepsUntil scripts files = (i n : ℕ) → AsksTooMuch (counted_of scripts files) i n → ⊥

-- the place is that of the first line against the rule, script by script and line by line
pub record IsFirstAgainst (scripts : List (List Step)) (files : List ℕ) (place : Place) : Type 0 where
  pub steps : List Step
  pub script : slice_get scripts place.script ≡ Some steps
  pub n : ℕ
  pub step : Step
  pub comes : slice_get steps n ≡ Some step
  pub line : place.line ≡ step.line
  pub against : AsksTooMuch (counted_of scripts files) place.script n
  pub first : (i m : ℕ) → (i < place.script) ⊎ ((i ≡ place.script) × (m < n)) → AsksTooMuch (counted_of scripts files) i m → ⊥
