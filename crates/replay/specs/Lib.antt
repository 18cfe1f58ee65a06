-- What contracts cite.
pub mod BeforeAfter
pub mod FaultLines
pub mod Words
pub mod Runs
pub mod Twins
pub mod Openings
pub mod Stores
pub mod Dumps
pub mod Endings
pub mod Causes
pub mod Readings
pub mod Complete
-- What private functions compute. No public clause rests on it.
pub mod LineParts
pub mod Kinds
pub mod Commands
