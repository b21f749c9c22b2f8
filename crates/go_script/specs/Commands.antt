-- What each command asks for: what it does with a place, what it puts, and which vertices and numbers it names. A line a command.
use Rattle.std.specs.Prelude.{ℕ, ◌≤◌, Bool, true, false, List, [], ◌∷◌, map}
use Rattle.go_api.specs.declared.limits.TheConstants.{LOG_ENTRIES}
use Rattle.go_word.specs.declared.edge.Edge.{Edge}
use Rattle.go_script.specs.declared.limits.TheConstants.{RANK_LIMIT, UPDATE_LIMIT}
use Rattle.go_script.specs.declared.command.Command.{Command}
use Rattle.go_script.specs.declared.command.Command.TheVariants as commands
use Rattle.go_script.specs.declared.usage.Kind.TheVariants as kinds
use Rattle.go_script.specs.declared.usage.Use.{Use}
use Rattle.go_script.specs.declared.usage.Use.TheVariants as uses
use Rattle.go_script.specs.declared.puts.Puts.{Puts}
use Rattle.go_script.specs.declared.puts.Puts.TheVariants as puts
use Rattle.go_script.specs.declared.step.Step.{Step}

-- the entry that adds or deletes an edge
abbrev pub entry_of : Bool → ℕ → ℕ → Edge
entry_of del src dst = record { del = del; src = src; dst = dst }

-- what a command does with a place
abbrev pub use_of : Command → Use
use_of (commands.Add src dst) = uses.Nothing
use_of (commands.Del src dst) = uses.Nothing
use_of (commands.Offer src dst) = uses.Nothing
use_of (commands.Load name) = uses.Nothing
use_of (commands.View place) = uses.Fills place kinds.View
use_of (commands.Drop place) = uses.Frees place kinds.View
use_of (commands.Degree place vertex) = uses.Reads place kinds.View
use_of (commands.Neigh place vertex) = uses.Reads place kinds.View
use_of (commands.Hop place vertex) = uses.Reads place kinds.View
use_of (commands.Level place root vertex) = uses.Reads place kinds.View
use_of (commands.Bfs place root) = uses.Reads place kinds.View
use_of (commands.Rank place count) = uses.Reads place kinds.View
use_of (commands.Stream place) = uses.Fills place kinds.Stream
use_of (commands.Close place) = uses.Frees place kinds.Stream
use_of (commands.Update place max) = uses.Reads place kinds.Stream
use_of (commands.Until asked) = uses.Nothing
use_of commands.Sync = uses.Nothing
use_of commands.Compact = uses.Nothing

-- what a command puts into the log
abbrev pub put_by : Command → Puts
put_by (commands.Add src dst) = puts.Entry (entry_of false src dst)
put_by (commands.Del src dst) = puts.Entry (entry_of true src dst)
put_by (commands.Offer src dst) = puts.Offered (entry_of false src dst)
put_by (commands.Load name) = puts.Listed
put_by (commands.View place) = puts.Nothing
put_by (commands.Drop place) = puts.Nothing
put_by (commands.Degree place vertex) = puts.Nothing
put_by (commands.Neigh place vertex) = puts.Nothing
put_by (commands.Hop place vertex) = puts.Nothing
put_by (commands.Level place root vertex) = puts.Nothing
put_by (commands.Bfs place root) = puts.Nothing
put_by (commands.Rank place count) = puts.Nothing
put_by (commands.Stream place) = puts.Nothing
put_by (commands.Close place) = puts.Nothing
put_by (commands.Update place max) = puts.Nothing
put_by (commands.Until asked) = puts.Nothing
put_by commands.Sync = puts.Nothing
put_by commands.Compact = puts.Nothing

-- the vertices that a command names
abbrev pub vertices_of : Command → List ℕ
vertices_of (commands.Add src dst) = src ∷ dst ∷ []
vertices_of (commands.Del src dst) = src ∷ dst ∷ []
vertices_of (commands.Offer src dst) = src ∷ dst ∷ []
vertices_of (commands.Load name) = []
vertices_of (commands.View place) = []
vertices_of (commands.Drop place) = []
vertices_of (commands.Degree place vertex) = vertex ∷ []
vertices_of (commands.Neigh place vertex) = vertex ∷ []
vertices_of (commands.Hop place vertex) = vertex ∷ []
vertices_of (commands.Level place root vertex) = root ∷ vertex ∷ []
vertices_of (commands.Bfs place root) = root ∷ []
vertices_of (commands.Rank place count) = []
vertices_of (commands.Stream place) = []
vertices_of (commands.Close place) = []
vertices_of (commands.Update place max) = []
vertices_of (commands.Until asked) = []
vertices_of commands.Sync = []
vertices_of commands.Compact = []

-- the number that a command names besides places and vertices is within its limits
abbrev pub IsInRange : Command → Type 0
IsInRange (commands.Add src dst) = Unit {0}
IsInRange (commands.Del src dst) = Unit {0}
IsInRange (commands.Offer src dst) = Unit {0}
IsInRange (commands.Load name) = Unit {0}
IsInRange (commands.View place) = Unit {0}
IsInRange (commands.Drop place) = Unit {0}
IsInRange (commands.Degree place vertex) = Unit {0}
IsInRange (commands.Neigh place vertex) = Unit {0}
IsInRange (commands.Hop place vertex) = Unit {0}
IsInRange (commands.Level place root vertex) = Unit {0}
IsInRange (commands.Bfs place root) = Unit {0}
IsInRange (commands.Rank place count) = (1 ≤ count) × (count ≤ RANK_LIMIT)
IsInRange (commands.Stream place) = Unit {0}
IsInRange (commands.Close place) = Unit {0}
IsInRange (commands.Update place max) = (1 ≤ max) × (max ≤ UPDATE_LIMIT)
IsInRange (commands.Until asked) = asked ≤ LOG_ENTRIES
IsInRange commands.Sync = Unit {0}
IsInRange commands.Compact = Unit {0}

-- the commands of a script, in order
abbrev pub commands_of : List Step → List Command
commands_of steps = map (λ step. step.command) steps
