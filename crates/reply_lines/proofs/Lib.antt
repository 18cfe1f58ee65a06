pub mod StandardFacts
pub mod QuoteLemmas
pub mod PlainLemmas
pub mod ListLemmas
