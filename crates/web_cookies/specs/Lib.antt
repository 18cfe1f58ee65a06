-- What contracts cite.
pub mod Stored
pub mod Uses
pub mod Cells
pub mod Keys
pub mod Becoming
pub mod Prepared
pub mod Rows
pub mod Listed
pub mod Migrated
-- What private functions compute. No public clause rests on it.
pub mod CellsOfUse
pub mod InPlace
pub mod Words
