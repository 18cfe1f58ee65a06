-- What the public clauses rest on.
pub mod Context
pub mod Key
pub mod Plain
pub mod Stays
