-- The definitions of plain stores.
pub mod Ring
pub mod Skips
pub mod RingFields
pub mod Views
pub mod Seats
pub mod Owners
pub mod Plain
pub mod FrontRows
pub mod Past
pub mod GoingOn
pub mod Fields
