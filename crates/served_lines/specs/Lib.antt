-- What contracts cite.
pub mod Refusal
pub mod Serving
pub mod Disks
-- What private functions compute. No public clause rests on it.
pub mod Endings
pub mod Waiting
pub mod Steps
