-- What the laws of walks speak of: commands that leave a place alone, and what came of a stream.
use Rattle.std.specs.Prelude.{◌≡◌, ◌⊎◌, ℕ, ◌==◌, if◌then◌else◌, false, List, [], ◌∷◌, ◌++◌}
use Rattle.go_word.specs.declared.edge.Edge.{Edge}
use Rattle.go_script.specs.Commands.{use_of}
use Rattle.go_script.specs.declared.command.Command.{Command}
use Rattle.go_script.specs.declared.command.Command.TheVariants.{Update}
use Rattle.go_script.specs.declared.usage.Kind.TheVariants.{View, Stream}
use Rattle.go_script.specs.declared.usage.Use.{Use}
use Rattle.go_script.specs.declared.usage.Use.TheVariants.{Nothing, Fills, Reads, Frees}
use Rattle.go_report.specs.declared.reply.Reply.{Reply}
use Rattle.go_report.specs.declared.reply.Reply.TheVariants.{Updated}
use Rattle.go_session.specs.Asked.{Asked}

-- a use neither fills nor frees a place, nor takes anything from a stream there
abbrev pub IsElsewhere : ℕ → Use → Type 0
IsElsewhere k Nothing = Unit {0}
IsElsewhere k (Fills place kind) = k == place ≡ false
IsElsewhere k (Reads place View) = Unit {0}
IsElsewhere k (Reads place Stream) = k == place ≡ false
IsElsewhere k (Frees place kind) = k == place ≡ false

-- commands neither fill nor free a place
abbrev pub LeaveAlone : ℕ → List Asked → Type 0
LeaveAlone k [] = Unit {0}
LeaveAlone k (a ∷ asked) = IsElsewhere k (use_of a.command) × LeaveAlone k asked

-- a command is an update of the stream at a place
abbrev pub IsUpdateAt : ℕ → Command → Type 0
IsUpdateAt k (Update place most) = place ≡ k
IsUpdateAt k _ = ⊥

-- commands leave a place alone, but for updates of the stream there
abbrev pub UpdateAlone : ℕ → List Asked → Type 0
UpdateAlone k [] = Unit {0}
UpdateAlone k (a ∷ asked) = (IsUpdateAt k a.command ⊎ IsElsewhere k (use_of a.command)) × UpdateAlone k asked

-- the entries that a reply gives of the stream at a place, and those of replies one after another
abbrev pub given_at : ℕ → Reply → List Edge
given_at k (Updated place from to list) = if place == k then list else []
given_at k _ = []

abbrev pub streamed_at : ℕ → List Reply → List Edge
streamed_at k [] = []
streamed_at k (reply ∷ replies) = given_at k reply ++ streamed_at k replies
