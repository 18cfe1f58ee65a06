-- What contracts cite.
pub mod Event
pub mod Queue
pub mod Audience
