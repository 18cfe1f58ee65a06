pub mod PrefixLemmas
pub mod StandardFacts
