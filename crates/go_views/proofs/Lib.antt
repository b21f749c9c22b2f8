-- The lemmas on views.
pub mod PinsBecome
pub mod PlaceTurns
pub mod EachTurn
pub mod ShardHanded
pub mod ShardsPinned
pub mod CountsListed
pub mod Staying
pub mod Copies
pub mod Entries
pub mod Reading
mod Few
mod Gathered
mod Taken
pub mod SampleViews
