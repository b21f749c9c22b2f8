-- The places at which a session keeps its views and streams: what each command needs of its place, and what it leaves there.
use Rattle.std.specs.Prelude.{◌≡◌, ℕ, ◌<◌, ◌==◌, if◌then◌else◌, Bool, true, false, List, Option, Some, None, fold, take, slice_get}
use Rattle.std.specs.List.{AllByRecursion}
use Rattle.go_api.specs.declared.place.TheConstants.{PLACES}
use Rattle.go_script.specs.declared.command.Command.{Command}
use Rattle.go_script.specs.declared.usage.Kind.{Kind}
use Rattle.go_script.specs.declared.usage.Kind.TheVariants as kinds
use Rattle.go_script.specs.declared.usage.Use.{Use}
use Rattle.go_script.specs.declared.usage.Use.TheVariants.{Nothing, Fills, Reads, Frees}
use Rattle.go_script.specs.Commands.{use_of, vertices_of, IsInRange}

-- what stands at the place k after a use of a place, by what stood there before
abbrev pub kind_after : ℕ → Option Kind → Use → Option Kind
kind_after k held Nothing = held
kind_after k held (Fills place kind) = if place == k then Some kind else held
kind_after k held (Reads place kind) = held
kind_after k held (Frees place kind) = if place == k then None else held

-- what stands at the place k after these commands; at first all places are free
abbrev pub kind_at : ℕ → List Command → Option Kind
kind_at k commands = fold (λ held command. kind_after k held (use_of command)) None commands

-- nothing stands there
abbrev pub is_free : Option Kind → Bool
is_free None = true
is_free (Some held) = false

-- something of the kind stands there
abbrev pub has_kind : Kind → Option Kind → Bool
has_kind kinds.View (Some kinds.View) = true
has_kind kinds.View (Some kinds.Stream) = false
has_kind kinds.Stream (Some kinds.View) = false
has_kind kinds.Stream (Some kinds.Stream) = true
has_kind kinds.View None = false
has_kind kinds.Stream None = false

-- a use finds its place as it needs it after these commands: free where it fills it, and with its kind where it reads or frees it
abbrev pub finds_use : List Command → Use → Bool
finds_use before Nothing = true
finds_use before (Fills place kind) = is_free (kind_at place before)
finds_use before (Reads place kind) = has_kind kind (kind_at place before)
finds_use before (Frees place kind) = has_kind kind (kind_at place before)

-- a command finds its place as it needs it after the commands before it
abbrev pub finds_place : List Command → Command → Bool
finds_place before command = finds_use before (use_of command)

-- the place of a use is one of those that a session has
abbrev pub UsesPlace : Use → Type 0
UsesPlace Nothing = Unit {0}
UsesPlace (Fills place kind) = place < PLACES
UsesPlace (Reads place kind) = place < PLACES
UsesPlace (Frees place kind) = place < PLACES

-- the place that a command names, where it names one, is one of those that a session has
abbrev pub NamesPlace : Command → Type 0
NamesPlace command = UsesPlace (use_of command)

-- what holds of each command of a script, after the commands before it
pub record Fits (before : List Command) (command : Command) : Type 0 where
  pub names : NamesPlace command
  pub ranges : IsInRange command
  pub finds : finds_place before command ≡ true

-- each command of a script names one of the session's places, where it names one, and finds it as it needs it; its numbers are within their limits
pub record IsScript (commands : List Command) : Type 0 where
  pub each : (k : ℕ) (command : Command) → slice_get commands k ≡ Some command → Fits (take k commands) command

-- the vertices that a command names are below v
abbrev pub NamesBelow : ℕ → Command → Type 0
NamesBelow v command = AllByRecursion (λ vertex. vertex < v) (vertices_of command)

-- what a line alone says of its command: it names one of the session's places, vertices below v, and numbers within their limits
pub record HasRightArguments (v : ℕ) (command : Command) : Type 0 where
  pub names : NamesPlace command
  pub below : NamesBelow v command
  pub ranges : IsInRange command

-- each vertex that commands name is below v
pub record IsWithin (v : ℕ) (commands : List Command) : Type 0 where
  pub each : (k : ℕ) (command : Command) → slice_get commands k ≡ Some command → NamesBelow v command
