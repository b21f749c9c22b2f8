-- A version as the contracts see it.
use Rattle.std.specs.Prelude.{ℕ}

-- from its front on, up to the front of the next version, the number is the count
pub record Version : Type 0 where
  pub front : ℕ
  pub count : ℕ
