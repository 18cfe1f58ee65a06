-- What the public clauses rest on.
pub mod Words
pub mod Line
pub mod Parts
pub mod Item
pub mod Numbers
pub mod Script
pub mod Laws
-- What private functions write. No public clause rests on it.
pub mod Members
