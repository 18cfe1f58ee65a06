-- What the public clauses rest on.
pub mod Sandbox
pub mod Document
pub mod Tree
pub mod Keys
pub mod Calls
pub mod Plain
-- What private functions compute. No public clause rests on it.
pub mod Kept
pub mod Places
pub mod Sets
