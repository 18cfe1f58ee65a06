pub mod StandardFacts
pub mod MemberLemmas
pub mod ListLemmas
pub mod CompactLemmas
pub mod FeedLemmas
pub mod LineReading
pub mod ItemReading
pub mod LawLemmas
