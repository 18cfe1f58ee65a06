-- What contracts cite.
pub mod Histories
pub mod Left
