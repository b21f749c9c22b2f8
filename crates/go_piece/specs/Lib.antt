-- What a piece means to a ring, and the laws on that.
pub mod Pieces
pub mod Laws
pub mod Meanings
pub mod Laying
