-- What the public clauses rest on.
pub mod Script
pub mod Words
pub mod Items
pub mod Heads
pub mod Cuts
pub mod Fields
pub mod Rows
pub mod Actions
pub mod Steps
pub mod Grammar
pub mod TwoScripts
pub mod Plain
-- What private functions compute. No public clause rests on it.
pub mod Names
pub mod Pieces
pub mod Flat
pub mod JsonLine
