-- What a word is read as: a number within a limit, or a vertex below their number.
use Rattle.std.specs.Prelude.{ℕ, ◌-◌, ◌^◌, List, Result, Ok, Err, nat_lt, if◌then◌else◌}
use Rattle.go_text.specs.Number.{number_of}
use Rattle.go_text.specs.declared.faults.FaultKind.{FaultKind}
use Rattle.go_text.specs.declared.faults.FaultKind.TheVariants.{Number, Vertex}
use Rattle.go_text.specs.Steps.{◌>>=◌}

-- the number that a word writes, at most the limit
abbrev pub number_in : ℕ → List ℕ → Result ℕ FaultKind
number_in limit word = elim (number_of limit word) [ Ok n ↦ Ok n | Err _ ↦ Err Number ]

-- the vertex that a word writes: a number of up to 64 bits that is below the number v of vertices
abbrev pub vertex_in : ℕ → List ℕ → Result ℕ FaultKind
vertex_in v word = number_in (2 ^ 64 - 1) word >>= λ n. if nat_lt n v then Ok n else Err Vertex
