-- What the public clauses rest on.
pub mod Address
pub mod Domain
pub mod Origin
pub mod Site
pub mod Plain
pub mod Own
