-- The definitions of live stores.
pub mod Going
pub mod GoingOn
pub mod Handles
pub mod Live
pub mod Putting
pub mod Samples
pub mod Standings
