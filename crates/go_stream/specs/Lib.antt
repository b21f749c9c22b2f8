-- The definitions of streams.
pub mod Spans
pub mod Updates
pub mod Streaming
