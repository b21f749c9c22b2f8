-- The lemmas on turns.
pub mod OwnPins
pub mod GivenPins
pub mod Going
pub mod Handing
pub mod Handed
pub mod Unchanged
pub mod Later
-- on the parts of the tests
pub mod Samples
