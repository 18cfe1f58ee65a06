-- What contracts cite.
pub mod Draws
pub mod Day
