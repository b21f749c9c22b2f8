-- The lemmas on words, on targets, on counts, and on what they leave.
pub mod TallyLemmas
pub mod TargetLemmas
pub mod WordLemmas
