mod StandardFacts
pub mod DayLemmas
pub mod BatchLemmas
pub mod RunLemmas
