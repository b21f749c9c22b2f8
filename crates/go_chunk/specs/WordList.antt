-- What the contracts see of a chain.
use Rattle.std.specs.Prelude.{◌≡◌, ◌<◌, ℕ, List, length, take, drop}

-- a chain is its words in order, and the number of words that it takes before it asks for memory again
pub record WordList : Type 0 where
  pub words : List ℕ
  pub spare : ℕ

-- some words, one at least, stand in a list from a place on
pub record StandFrom (list : List ℕ) (place : ℕ) (words : List ℕ) : Type 0 where
  pub some : 0 < length words
  pub there : words ≡ take (length words) (drop place list)
