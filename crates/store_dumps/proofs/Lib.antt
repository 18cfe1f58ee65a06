pub mod StandardFacts
pub mod RowLemmas
pub mod TextLemmas
pub mod OpeningLemmas
