-- What contracts cite.
pub mod Matching
