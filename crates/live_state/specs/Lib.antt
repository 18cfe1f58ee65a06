-- What the public clauses rest on.
pub mod Tabs
pub mod Documents
pub mod Hearers
pub mod Queues
pub mod FramesInPlace
-- What private functions compute. No public clause rests on it.
pub mod ExistingQueues
pub mod TabPlaces
pub mod SiteTabs
pub mod OpenTabs
pub mod TabLists
