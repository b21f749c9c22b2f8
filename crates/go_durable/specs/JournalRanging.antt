-- What reading a range of a journal's log comes to.
use Rattle.std.specs.Prelude.{◌≡◌, ℕ, ◌+◌, ◌-◌, false, List, length, take, Option, None, Some, IfSome}
use Rattle.go_word.specs.declared.edge.Edge.{Edge}
use Rattle.go_api.specs.declared.stop.Stop.{Stop}
use Rattle.go_disk.specs.Device.{Device}
use Rattle.go_durable.specs.Journal.{block_count, is_spent, Keeps, IsStopped}
use Rattle.go_durable.specs.Ranging.{Asked, AddsRange}
use Rattle.go_durable.specs.declared.journal.Journal.{Journal}

-- entries were read: the journal goes on as it was, so many entries were added, and they are the log's where the disk tells
pub record IsRanged {D : Type 0} (device : Device D) (asked : Asked) (old new : Journal D) : Type 0 where
  pub sound : is_spent new ≡ false
  pub blocks : block_count new ≡ block_count old
  pub so_many : length asked.after ≡ length asked.before + (asked.upto - asked.from)
  pub front_stays : take (length asked.before) asked.after ≡ asked.before
  pub shown : (v first : ℕ) (log : List Edge) (opened : D) → Keeps device v first log opened old →
      IfSome (device.contents opened) (λ bytes. AddsRange log asked.from asked.upto asked.before asked.after)

-- what is answered: entries were read, or it was stopped, and nothing was added
abbrev pub HasRanged : {D : Type 0} → Device D → Asked → Journal D → Journal D → Option Stop → Type 0
HasRanged device asked old new None = IsRanged device asked old new
HasRanged device asked old new (Some why) = IsStopped new (Some why) × (asked.after ≡ asked.before)
