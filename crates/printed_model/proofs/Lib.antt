pub mod LawLemmas
pub mod HistoryFacts
pub mod LeftLemmas
