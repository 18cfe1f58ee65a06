-- What contracts cite.
pub mod Limits
pub mod Victims
-- What private functions compute. No public clause rests on it.
pub mod First
