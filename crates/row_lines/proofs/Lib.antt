pub mod StandardFacts
pub mod TokenLemmas
