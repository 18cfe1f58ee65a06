-- Names of read addresses, documents and keys.
pub mod NameLemmas
pub mod FrameLemmas
pub mod KeyLemmas
-- Cookies of texts, and cells.
pub mod CellLemmas
pub mod TextLemmas
pub mod CookieLemmas
pub mod SpellsLemmas
pub mod UseLemmas
-- What actions do.
pub mod DoneLemmas
pub mod AreaLemmas
pub mod GrantLemmas
pub mod ActLemmas
-- Every event and every line.
pub mod StepLemmas
pub mod WorldLemmas
-- Durable states.
pub mod SavedLemmas
-- Values worked out by hand.
mod SpelledFacts
