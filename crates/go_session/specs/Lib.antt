-- The definitions of sessions.
pub mod Asked
pub mod Value
pub mod Walk
pub mod Cut
pub mod Session
pub mod Looks
pub mod Kept
pub mod Answers
pub mod Searches
pub mod Rests
pub mod Laws
pub mod Drives
pub mod Listed
