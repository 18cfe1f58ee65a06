-- What contracts cite.
pub mod Cookie
pub mod Plain
pub mod Access
pub mod Key
pub mod Lifetime
pub mod NewCookie
pub mod Drops
pub mod Steps
pub mod Persistent
pub mod Planned
pub mod Sending
pub mod Stored
pub mod Stays
-- What private functions compute. No public clause rests on it.
pub mod Borrowed
pub mod Flags
pub mod Marked
pub mod Performed
pub mod Sent
