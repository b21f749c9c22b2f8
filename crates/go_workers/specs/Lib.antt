-- The definitions of workers.
pub mod OwnFronts
pub mod Bringing
pub mod Turns
pub mod Samples
