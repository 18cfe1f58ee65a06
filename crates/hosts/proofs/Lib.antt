pub mod EntryLemmas
pub mod StoreLemmas
pub mod StandardFacts
