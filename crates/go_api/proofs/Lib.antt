-- The lemmas on positions, logs and standings.
pub mod AloneLemmas
pub mod MergeLemmas
pub mod StandingLemmas
