-- Lemmas of the shelves and sinks.
pub mod SinkLemmas
pub mod NamedTextLemmas
pub mod EntryLemmas
pub mod PutLemmas
pub mod ReadLemmas
