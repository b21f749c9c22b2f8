-- What the program is to do.
use Rattle.std.specs.Prelude.{ℕ, List}

-- to run scripts under these names, or one script over so many entries that are generated from a seed
pub data Work : Type 0 where
  driving : List (List ℕ) → Work
  generating : ℕ → ℕ → Work
