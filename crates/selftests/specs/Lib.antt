-- What contracts cite.
pub mod Days
pub mod Store
pub mod Line
-- What private functions compute. No public clause rests on it.
pub mod Runs
