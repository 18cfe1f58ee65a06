-- What contracts cite.
pub mod Action
pub mod Plain
pub mod ActionFacts
pub mod ActionNames
pub mod Labels
