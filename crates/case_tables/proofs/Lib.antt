mod StandardFacts
pub mod Pairs
pub mod RowsLemmas
