mod StandardFacts
pub mod RetainLemmas
pub mod WalksLemmas
pub mod EntriesLemmas
pub mod FiniteKeys
pub mod PlainKeyLemmas
