-- What contracts cite.
pub mod AgentView
pub mod Seen
pub mod Calls
pub mod Means
pub mod Flushing
-- What private functions compute.
pub mod Running
pub mod Batch
pub mod Openings
pub mod Standing
