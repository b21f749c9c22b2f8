-- The definitions that the contracts of this crate cite.
pub mod Line
pub mod Word
pub mod Number
pub mod FaultKind
pub mod Causes
pub mod Steps
pub mod Arguments
pub mod Texts
