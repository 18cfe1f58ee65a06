-- What contracts cite.
pub mod Standing
pub mod Commits
pub mod Reopens
