-- The steps of a search and of a rank, which contracts of private functions cite.
pub mod Steps
pub mod Depth
