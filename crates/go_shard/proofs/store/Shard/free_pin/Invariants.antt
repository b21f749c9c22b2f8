-- The loop of `free_pin`.
use Rattle.std.proofs.Common.{◌≡◌, ℕ, ◌+◌, ◌<◌, ◌≤◌, length, true}
use Rattle.go_word.specs.Pins.{has_name}
use Rattle.go_shard.proofs.FrontLemmas.{named_from}
use Rattle.go_shard.proofs.store.Shard.free_pin.Given as goal

-- all numbers so far are names, and there are not more of them than pins
abbrev pub invariant-loop-self : goal.invariant-loop-self
invariant-loop-self l = record {
  least : (id : ℕ) → id < l.id → has_name id l.self.pins ≡ true;
  room : l.id + named_from l.id l.self.pins ≤ length l.self.pins;
}

abbrev pub decreases-loop-self : goal.decreases-loop-self
decreases-loop-self l = named_from l.id l.self.pins
