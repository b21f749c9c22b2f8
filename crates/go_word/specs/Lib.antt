-- The definitions of entries, logs, words and pins.
pub mod Log
pub mod Neighbours
pub mod Pins
pub mod Word
