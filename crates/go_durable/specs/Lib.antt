-- What the contracts of durable logs cite.
pub mod LogState
pub mod Moments
pub mod Recovery
pub mod Standing
pub mod Writing
pub mod Appending
pub mod Attaching
pub mod Handing
pub mod Reading
pub mod Ranging
pub mod Runs
pub mod Journal
pub mod JournalRanging
pub mod Finishing
