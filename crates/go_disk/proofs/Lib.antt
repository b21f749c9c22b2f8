-- Lemmas of disks.
pub mod RecordLemmas
pub mod StepLemmas
pub mod TornLemmas
pub mod KeptLemmas
