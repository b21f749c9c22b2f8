-- The definitions of the rule on the table.
pub mod Closing
pub mod Meaning
pub mod Opening
pub mod Rule
pub mod Samples
pub mod Steps
pub mod Turns
pub mod Views
