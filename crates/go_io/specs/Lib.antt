-- What the contracts of the shelves and sinks cite.
pub mod Shelf
pub mod Sink
pub mod MemShelf
pub mod MemSink
pub mod Entries
