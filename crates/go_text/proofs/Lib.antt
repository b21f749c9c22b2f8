-- Lemmas on the definitions of this crate.
pub mod LineLemmas
pub mod WordLemmas
pub mod NumberLemmas
pub mod FirstLemmas
