-- The definitions that the contracts of this crate cite.
pub mod Lane
pub mod Groups
pub mod ByVertex
pub mod Listing
pub mod Batch
pub mod Compacting
pub mod Fronts
pub mod ShardState
pub mod Stands
pub mod Split
pub mod Parts
pub mod Taking
