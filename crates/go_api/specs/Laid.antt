-- How the entries of several sessions lie behind an old log.
use Rattle.std.specs.Prelude.{◌≡◌, ℕ, ◌+◌, ◌<◌, ◌≤◌, ◌==◌, List, [], ◌∷◌, length, take, slice_get, Some, count_by, sum_by}
use Rattle.std.specs.List.{AllByRecursion}
use Rattle.go_word.specs.declared.edge.Edge.{Edge}

-- positions that rise, from a first one on
abbrev pub Rises : ℕ → List ℕ → Type 0
Rises first [] = Unit {0}
Rises first (p ∷ own) = (first ≤ p) × Rises (p + 1) own

-- the log has the puts of one session at its positions: the first ones, as many as there are positions
abbrev pub HasPuts : List Edge → List ℕ → List Edge → Type 0
HasPuts log [] puts = Unit {0}
HasPuts log (p ∷ own) [] = ⊥
HasPuts log (p ∷ own) (e ∷ puts) = (slice_get log p ≡ Some e) × HasPuts log own puts

-- the same for each session in turn
abbrev pub HasAllPuts : List Edge → List (List ℕ) → List (List Edge) → Type 0
HasAllPuts log [] [] = Unit {0}
HasAllPuts log [] (puts ∷ more) = ⊥
HasAllPuts log (own ∷ owns) [] = ⊥
HasAllPuts log (own ∷ owns) (puts ∷ more) = HasPuts log own puts × HasAllPuts log owns more

-- how often a position stands among the positions of all sessions
abbrev pub times_owned : ℕ → List (List ℕ) → ℕ
times_owned p owns = sum_by (λ own. count_by (λ q. q == p) own) owns

-- a log is an old one followed by an interleaving of what the sessions put: `owns` are the positions of each session, which rise behind the old log;
-- each position there is owned by one session, once, and has what that session put
pub record Laid (old log : List Edge) (owns : List (List ℕ)) (puts : List (List Edge)) : Type 0 where
  pub begins : take (length old) log ≡ old
  pub rising : AllByRecursion (Rises (length old)) owns
  pub once : (p : ℕ) → length old ≤ p → p < length log → times_owned p owns ≡ 1
  pub placed : HasAllPuts log owns puts

-- every entry that a session put has its position
abbrev pub IsWhole : List (List ℕ) → List (List Edge) → Type 0
IsWhole [] [] = Unit {0}
IsWhole [] (puts ∷ more) = ⊥
IsWhole (own ∷ owns) [] = ⊥
IsWhole (own ∷ owns) (puts ∷ more) = (length own ≡ length puts) × IsWhole owns more
