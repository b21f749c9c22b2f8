-- The definitions of views.
pub mod Counts
pub mod Pins
pub mod PlaceTurns
pub mod Settling
pub mod Views
pub mod Copying
pub mod Reading
pub mod Gathering
pub mod Taking
pub mod Samples
