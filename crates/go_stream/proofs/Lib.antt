-- The lemmas on streams.
pub mod Entries
pub mod Copies
pub mod Turns
pub mod Files
pub mod Spans
pub mod Onward
pub mod SampleRing
