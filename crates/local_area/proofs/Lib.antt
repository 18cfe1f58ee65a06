mod StandardFacts
pub mod PairsLemmas
pub mod EntriesLemmas
pub mod PlacesLemmas
pub mod ChangesLemmas
