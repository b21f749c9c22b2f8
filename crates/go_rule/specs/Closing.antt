-- What is left of a ring that was closed.
use Rattle.std.specs.Prelude.{◌≡◌, ℕ, List, [], ◌∷◌, Option as Maybe}
use mathlib.Core.Option.{Option}
use Rattle.go_word.specs.declared.edge.Edge.{Edge}
use Rattle.go_core.specs.Frame.{head_in, archived_in, durable_in}
use Rattle.go_rule.specs.declared.layout.Key.{Key}
use Rattle.go_rule.specs.declared.view.SeatView.{SeatView}
use Rattle.go_rule.specs.Meaning.{Meaning}
use Rattle.go_rule.specs.Rule.{IsRuledBy}

-- the rule holds of the words, of the parts by place, and of one seat alone; the numbers are those of the words
pub record IsClosed {P : Type 0} (m : Meaning P) (key : Key P) (d : SeatView P) (parts : List P) (head archived durable : ℕ) : Type 0 where
  pub log : List Edge
  pub words : List ℕ
  pub homes : List (Option (Maybe P))
  pub by : IsRuledBy m key (record { words = words; homes = homes; views = d ∷ [] }) log parts
  pub head_is : head_in words ≡ head
  pub archived_is : archived_in words ≡ archived
  pub durable_is : durable_in words ≡ durable
