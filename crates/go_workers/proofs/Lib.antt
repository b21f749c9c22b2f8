-- The lemmas on workers.
pub mod OwnFronts
pub mod Halves
pub mod OwnEntries
pub mod RunsRead
pub mod ShardsGiven
pub mod FilesGiven
pub mod Served
pub mod TurnsDone
pub mod FileTurns
pub mod ShardTurns
pub mod SeatSamples
