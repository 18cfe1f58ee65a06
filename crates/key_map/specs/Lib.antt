-- What contracts cite.
pub mod Entries
pub mod Lends
pub mod Retain
