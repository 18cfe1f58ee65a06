-- What contracts cite.
pub mod Bodies
pub mod Stored
pub mod Listing
pub mod Kept
pub mod Laws
pub mod MigrateLaws
pub mod FileLaws
pub mod OneMeaning
pub mod Applying
-- What private functions do. No public clause rests on it.
pub mod Edits
pub mod CellTexts
pub mod Pushed
pub mod Sinks
