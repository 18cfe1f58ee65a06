-- What contracts cite.
pub mod Options
pub mod Words
pub mod Plain
pub mod Shows
pub mod PlainShows
-- What private functions compute. No public clause rests on it.
pub mod Walk
pub mod Program
