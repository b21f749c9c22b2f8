-- The lemmas on scripts.
mod ScriptLemmas
mod PlaceLemmas
mod GrammarLemmas
mod ReadingLemmas
mod LawLemmas
mod TallyLemmas
mod UntilLemmas
mod SessionLemmas
