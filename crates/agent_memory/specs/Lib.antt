-- What contracts cite.
pub mod AgentState
pub mod Written
pub mod Body
-- What is held for all sites. No public clause rests on it.
pub mod FrameTrees
pub mod HoldingsView
-- What private functions compute. No public clause rests on it.
pub mod Documents
pub mod ActionKinds
pub mod Actions
pub mod Lines
pub mod Writes
pub mod Requests
pub mod Access
