-- A sink in memory, as contracts see it, and the exact answers of its puts.
use Rattle.std.specs.Prelude.{◌⊎◌, ℕ, ◌-◌, ◌<◌, ◌≤◌, min, List, ◌++◌, length, take, Contains, Some, Result, Ok, Err}
use Rattle.go_text.specs.Causes.{raised}
use Rattle.go_text.specs.declared.faults.Failed.{Failed}
use Rattle.go_io.specs.Sink.{SinkState}

-- the bytes that a sink has taken, the most that it takes at once, how many it has room for in all,
-- the numbers of the calls that fail, how many calls there were, and how many of them failed
pub record Basin : Type 0 where
  pub taken : List ℕ
  pub most : ℕ
  pub room : ℕ
  pub failing : List ℕ
  pub calls : ℕ
  pub faults : ℕ

-- how it stands as a sink
abbrev pub sink_of : Basin → SinkState
sink_of basin = record { taken = Some basin.taken; faults = basin.faults }

-- a put of this piece fails: its number is listed, or the piece isn't empty and the room is full
abbrev pub FailsAt : Basin → List ℕ → Type 0
FailsAt basin piece = Contains basin.failing basin.calls ⊎ ((0 < length piece) × (basin.room ≤ length basin.taken))

-- how many bytes of a piece a put takes that doesn't fail
abbrev pub count_taken : Basin → List ℕ → ℕ
count_taken basin piece = min basin.most (min (basin.room - length basin.taken) (length piece))

-- the sink after a put with this answer: only its bytes and its counts change
abbrev pub after_put : Basin → List ℕ → Result ℕ Failed → Basin
after_put basin piece (Ok count) = record basin { taken = basin.taken ++ take count piece; calls = raised basin.calls }
after_put basin piece (Err fault) = record basin { calls = raised basin.calls; faults = raised basin.faults }
