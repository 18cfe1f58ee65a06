mod StandardFacts
mod TreeFacts
pub mod ShapeLemmas
pub mod TopLemmas
pub mod ChainLemmas
pub mod ApartLemmas
pub mod SetLemmas
pub mod LastLemmas
pub mod KeptLemmas
pub mod KeyLemmas
pub mod PlaceLemmas
pub mod SoundLemmas
pub mod LawLemmas
pub mod AboveLemmas
