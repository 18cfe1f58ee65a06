pub mod GoodLemmas
pub mod TouchedLemmas
pub mod CollectedLemmas
pub mod TwinLemmas
pub mod CountLemmas
pub mod LoopLemmas
pub mod GivenLemmas
pub mod TwinFacts
