-- What contracts cite.
pub mod Lines
pub mod Shown
pub mod Differ
pub mod Laws
