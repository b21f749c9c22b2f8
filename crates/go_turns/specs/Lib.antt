-- The definitions of turns.
pub mod Going
pub mod Holding
pub mod Lending
pub mod Samples
