pub mod StandardFacts
pub mod TextLemmas
pub mod ApartLemmas
pub mod PlaceLemmas
pub mod ShownLemmas
