-- The definitions, in the order in which they are read.
pub mod Saved
pub mod RowEdits
pub mod Keeping
pub mod Sound
pub mod Histories
pub mod Laws
pub mod Migrate
