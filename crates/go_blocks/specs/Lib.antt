-- The definitions of log files.
pub mod Faults
pub mod File
pub mod Log
pub mod Reading
