-- The definitions of the ring's calls.
pub mod Calls
pub mod Claims
pub mod Copies
pub mod Cursors
pub mod Openings
pub mod Reads
pub mod Samples
pub mod Takes
