mod StandardFacts
pub mod AddressFacts
pub mod DayLemmas
