-- The definitions that the contracts of this crate cite.
pub mod Version
pub mod History
pub mod Room
