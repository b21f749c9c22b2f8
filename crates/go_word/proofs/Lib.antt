-- The lemmas on entries, logs and words.
pub mod NeighbourLaws
pub mod NeighbourLemmas
pub mod WordLaws
