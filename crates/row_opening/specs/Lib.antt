-- What the public clauses rest on.
pub mod Under
pub mod Opened
-- What private functions leave. No public clause rests on it.
pub mod Settling
