-- What a graph shows, and what is asked of it: levels, ranks and hops.
pub mod Graph
pub mod Levels
pub mod Search
pub mod Ranks
pub mod Hops
pub mod Counts
