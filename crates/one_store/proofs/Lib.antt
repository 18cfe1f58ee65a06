-- What one site has of what is held for all sites, before and after each action.
pub mod HeldLemmas
pub mod DocumentLemmas
pub mod AreaLemmas
pub mod TabLemmas
pub mod BucketLemmas
pub mod SessionLemmas
pub mod CookieLemmas
pub mod GrantLemmas
pub mod TopLemmas
-- What a line makes of the world.
pub mod PlacedLemmas
pub mod ActLemmas
pub mod ActPlacedLemmas
pub mod WorldLemmas
pub mod WorldBeginningLemmas
pub mod WorldActLemmas
pub mod WorldCloseLemmas
pub mod WorldLoadLemmas
pub mod WorldOpenLemmas
-- One store, and the world that it stands for.
pub mod RefinementLemmas
-- Values worked out by hand.
mod HeldFacts
mod RunFacts
mod GivenFacts
