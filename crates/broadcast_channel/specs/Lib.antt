-- What contracts cite.
pub mod Channel
pub mod Calls
-- What private functions compute.
pub mod Queue
pub mod Hearers
