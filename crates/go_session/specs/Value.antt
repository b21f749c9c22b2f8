-- What commands ask of a view: values over the entries that it shows.
use Rattle.std.specs.Prelude.{◌≡◌, ℕ, List, Option}
use Rattle.go_word.specs.declared.edge.Edge.{Edge}
use Rattle.go_word.specs.declared.ranked.Ranked.{Ranked}
use Rattle.go_word.specs.Neighbours.{neighbours}
use Rattle.go_model.specs.Counts.{AreCounts}
use Rattle.go_model.specs.Hops.{IsHop}
use Rattle.go_model.specs.Levels.{IsLevel}
use Rattle.go_model.specs.Ranks.{degree, IsRank}
use Rattle.go_script.specs.declared.command.Command.{Command}
use Rattle.go_script.specs.declared.command.Command.TheVariants as asks
use Rattle.go_report.specs.declared.reply.Reply.{Reply}
use Rattle.go_report.specs.declared.reply.Reply.TheVariants as tells

-- the reply to a command that asks something of a graph of so many vertices, after these entries
abbrev pub IsValue : ℕ → List Edge → Command → Reply → Type 0
IsValue size log (asks.Degree place vertex) reply = reply ≡ tells.Degree vertex (degree log vertex)
IsValue size log (asks.Neigh place vertex) reply = reply ≡ tells.Neighbours vertex (neighbours log vertex)
IsValue size log (asks.Hop place vertex) reply = (list : List ℕ) × (reply ≡ tells.Hop vertex list) × IsHop log vertex list
IsValue size log (asks.Level place root vertex) reply = (level : Option ℕ) × (reply ≡ tells.Level root vertex level) × IsLevel log root vertex level
IsValue size log (asks.Bfs place root) reply =
    (counts : List ℕ) × (unreached : ℕ) × (reply ≡ tells.Levels root counts unreached) × AreCounts log size root counts unreached
IsValue size log (asks.Rank place count) reply = (list : List Ranked) × (reply ≡ tells.Rank list) × IsRank log size count list
IsValue size log _ reply = ⊥
