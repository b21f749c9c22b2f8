-- The positions of a session that writes behind a log alone.
use Rattle.std.specs.Prelude.{ℕ, zero, suc, ◌+◌, List, [], ◌∷◌}

-- as many positions as told, one after another from the first on
abbrev pub positions : ℕ → ℕ → List ℕ
positions first zero = []
positions first (suc count) = first ∷ positions (first + 1) count
