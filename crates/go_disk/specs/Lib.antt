-- What the contracts of disks cite.
pub mod Device
pub mod Disk
pub mod Image
pub mod MemDisk
pub mod ImageLaws
pub mod Recording
