-- What contracts cite.
pub mod Lines
pub mod Items
pub mod Difference
pub mod Events
pub mod Present
pub mod Seen
pub mod Laws
-- What private functions compute. No public clause rests on it.
pub mod CookieParts
pub mod Cells
pub mod Sides
pub mod EntryParts
