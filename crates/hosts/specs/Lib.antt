-- What contracts cite.
pub mod Hosts
pub mod Entries
pub mod MemoryStores
