mod StandardFacts
pub mod EvictLemmas
