-- What contracts cite.
pub mod Sessions
pub mod Lends
