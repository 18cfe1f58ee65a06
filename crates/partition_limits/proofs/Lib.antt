mod OrderLemmas
pub mod VictimLaws
pub mod FirstLemmas
mod StandardFacts
