pub mod Steps
mod Leaves
mod Rewrites
pub mod Openings
pub mod Calls
mod Under
