-- The lemmas on lanes, on what a shard stands for, and on shards that have their parts of a log.
pub mod AddedLemmas
pub mod LaneLemmas
pub mod GroupLemmas
pub mod ByGroupsLemmas
pub mod ListingLemmas
pub mod EntriesLemmas
pub mod RestLemmas
pub mod KeepsLemmas
pub mod FrontLemmas
pub mod PinLemmas
pub mod GrowthLemmas
pub mod ComingLemmas
pub mod RenewalLemmas
pub mod CompactLemmas
pub mod AllCompactLemmas
pub mod SplitLemmas
pub mod TakingLemmas
pub mod PartLemmas
pub mod LongerLemmas
pub mod MakingLemmas
pub mod CountLemmas
pub mod ReadingLemmas
mod WordsLemmas
