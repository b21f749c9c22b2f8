-- The definitions of files of edges and of the generator.
pub mod Reading
pub mod TextFile
pub mod BinaryFile
pub mod EdgeFile
pub mod Laws
pub mod Generated
