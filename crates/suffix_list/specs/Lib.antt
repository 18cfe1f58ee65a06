-- What the public clauses rest on.
pub mod Suffix
pub mod ListText
-- What private functions compute. No public clause rests on it.
pub mod Names
pub mod Lines
