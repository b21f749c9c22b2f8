-- Lemmas on rows side by side.
pub mod RowsLemmas
