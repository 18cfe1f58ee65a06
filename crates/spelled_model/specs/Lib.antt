-- The definitions, in the order in which they are read.
pub mod Addresses
pub mod Frames
pub mod Rows
pub mod Worlds
pub mod Laws
