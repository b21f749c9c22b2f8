-- The definitions of scripts.
pub mod Commands
pub mod Places
pub mod Held
pub mod Grammar
pub mod Answers
pub mod Reading
pub mod Until
pub mod Walked
