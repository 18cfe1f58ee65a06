mod StandardFacts
pub mod MapLemmas
pub mod QueueLemmas
pub mod LineLemmas
pub mod ViewLemmas
pub mod OwnedLemmas
pub mod CallLemmas
pub mod OwnerLemmas
