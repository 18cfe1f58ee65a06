-- What contracts cite.
pub mod FaultLines
pub mod Shows
pub mod Causes
-- What private functions compute. No public clause rests on it.
pub mod Serving
