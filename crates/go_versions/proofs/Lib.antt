-- Lemmas on versions at or below a front.
pub mod HistoryLemmas
