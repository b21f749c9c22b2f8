-- Lemmas on the pieces of a chain.
pub mod PlaceLemmas
pub mod CopyLemmas
pub mod SliceLemmas
