-- What a log is: a list of entries, the oldest first.
use Rattle.std.specs.Prelude.{◌≡◌, ℕ, ◌<◌, ◌≤◌, ◌==◌, Bool, false, List, length, filter, All, count_by}
use Rattle.go_word.specs.declared.edge.Edge.{Edge}

-- an entry leaves the vertex s
abbrev pub leaves : ℕ → Edge → Bool
leaves s e = e.src == s

-- the entries of a log that leave s, in their order
abbrev pub entries_from : ℕ → List Edge → List Edge
entries_from s log = filter (leaves s) log

-- a log has additions alone
abbrev pub IsOfAdditions : List Edge → Type 0
IsOfAdditions log = All (λ e. e.del ≡ false) log

-- the number of entries of a log that leave s, additions and deletions alike
abbrev pub raw : List Edge → ℕ → ℕ
raw log s = count_by (leaves s) log

-- both vertices of an entry are below a number
pub record IsWithin (v : ℕ) (e : Edge) : Type 0 where
  pub source : e.src < v
  pub destination : e.dst < v

-- a log may be read up to this front: so far each one up to its length is such an end
abbrev pub IsEnd : List Edge → ℕ → Type 0
IsEnd log front = front ≤ length log
