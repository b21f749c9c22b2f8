-- What the sessions of a store agree on.
pub mod Laid
pub mod Alone
pub mod Merge
pub mod Standing
pub mod Calls
pub mod Limits
