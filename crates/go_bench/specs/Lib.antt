-- The definitions of the benchmarks.
pub mod Filled
pub mod Shares
