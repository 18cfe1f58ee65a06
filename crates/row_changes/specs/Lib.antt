-- What has to be believed: row changes, their bytes, and what bytes say.
pub mod Change
pub mod Fields
pub mod Names
pub mod Spelling
pub mod Spelled
pub mod Reading
pub mod Body
pub mod Laws
pub mod Under
pub mod Appended
-- What contracts see of a row change, and what private functions answer.
pub mod Plain
pub mod Pieces
pub mod Grown
pub mod Stops
pub mod LastKey
