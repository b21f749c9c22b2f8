-- The lemmas on log files.
pub mod Bytes
pub mod FaultLaws
pub mod FieldLemmas
pub mod FileLaws
pub mod Steps
