pub mod SameLemmas
pub mod ReadsBackLemmas
pub mod OriginLemmas
pub mod SuffixLemmas
pub mod KindLemmas
pub mod SiteLemmas
pub mod TextLemmas
pub mod StandardFacts
