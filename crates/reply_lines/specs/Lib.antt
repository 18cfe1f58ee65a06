-- What the public clauses rest on.
pub mod Reply
pub mod Plain
-- What private functions compute. No public clause rests on it.
pub mod Pieces
