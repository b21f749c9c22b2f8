-- The lemmas on the ring's calls.
pub mod Copying
pub mod Cursors
pub mod Ends
pub mod Fills
pub mod Unseen
pub mod Turns
pub mod Parts
pub mod Puts
pub mod Runs
pub mod Workers
