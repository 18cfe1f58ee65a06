-- What contracts cite.
pub mod Waiting
