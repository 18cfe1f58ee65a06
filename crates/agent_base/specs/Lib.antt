pub mod Counts
pub mod Streams
pub mod Answers
pub mod Seconds
pub mod Memory
