pub mod TextLemmas
pub mod CourseLemmas
pub mod LoopLemmas
pub mod StopLemmas
pub mod AgentLemmas
pub mod DiskLemmas
pub mod CountLemmas
pub mod EndLemmas
pub mod TidyLemmas
pub mod CutLemmas
pub mod KeepLemmas
mod CutFacts
pub mod PowerLemmas
pub mod FrontLemmas
