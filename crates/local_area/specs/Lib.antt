-- What contracts cite.
pub mod Area
pub mod Put
-- What private functions compute. No public clause rests on it.
pub mod Stored
pub mod Places
