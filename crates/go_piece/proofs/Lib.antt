-- The lemmas for callers of turns: what a call made of a piece is what the ring asks of a part that is given back.
pub mod Stretches
pub mod Unchanged
pub mod ShardCalls
pub mod FileCalls
pub mod Opening
mod RingSamples
