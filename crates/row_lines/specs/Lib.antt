-- What the public clauses rest on.
pub mod Row
pub mod Plain
pub mod Tokens
