-- The definitions of the program.
pub mod Work
pub mod Names
pub mod Words
pub mod Found
pub mod Status
pub mod Input
pub mod Reading
pub mod NamedText
pub mod Files
pub mod Lists
pub mod Judged
pub mod Run
pub mod Course
pub mod Ran
pub mod Causes
pub mod Turns
pub mod Driving
