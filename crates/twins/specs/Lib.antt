-- What contracts cite.
pub mod Plain
pub mod Settings
pub mod Scripts
pub mod Comparing
pub mod EntryLines
-- What private functions make. No public clause rests on it.
pub mod Collectors
pub mod Collecting
