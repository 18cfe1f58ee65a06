-- What contracts cite.
pub mod Stored
pub mod Lends
pub mod Listed
pub mod Migrated
pub mod BucketRoom
pub mod SiteSessions
-- What private functions compute. No public clause rests on it.
pub mod Evicting
pub mod Texts
