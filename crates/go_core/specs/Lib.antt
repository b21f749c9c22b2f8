-- The definitions of the ring's rule and of the machine that keeps it.
pub mod Acts
pub mod Frame
pub mod Fronts
pub mod History
pub mod Machine
pub mod Opening
pub mod Parts
pub mod Pins
pub mod Rule
pub mod Turns
pub mod View
