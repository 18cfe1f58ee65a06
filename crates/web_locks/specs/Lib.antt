-- What contracts cite.
pub mod Lock
pub mod Queue
pub mod Requests
pub mod Plain
pub mod Owners
pub mod Calls
pub mod Parts
-- What private functions compute. No public clause rests on it.
pub mod Numbers
pub mod Groups
pub mod Index
pub mod Forms
pub mod Kept
