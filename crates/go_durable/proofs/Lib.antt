-- The lemmas of durable logs.
pub mod Moments
pub mod Asking
pub mod Gates
pub mod Headers
pub mod Growing
pub mod Attached
pub mod Standing
pub mod Recovered
pub mod Places
pub mod Journals
pub mod Finishing
pub mod Ranges
pub mod RangeSteps
pub mod Runs
pub mod JournalRanges
