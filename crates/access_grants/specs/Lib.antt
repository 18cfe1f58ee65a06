pub mod Grant
pub mod UnderSite
pub mod Request
pub mod Plain
pub mod Stays
-- What private functions compute. No public clause rests on it.
pub mod Index
