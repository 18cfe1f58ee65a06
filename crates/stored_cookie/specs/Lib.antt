-- What contracts cite.
pub mod StoredCookie
