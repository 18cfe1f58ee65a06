-- Maps whose keys pass a test.
pub mod KeptLemmas
-- What writes and copies leave.
pub mod HoldingsLemmas
pub mod SessionLemmas
-- An action in secure contexts alone.
pub mod SecureLemmas
-- The cells that sites share.
pub mod CookieCellsLemmas
pub mod ApartLemmas
pub mod PartitionedLemmas
pub mod CookieLemmas
pub mod CookieActionLemmas
-- What holds of the frames of each tab.
pub mod TopKeptLemmas
pub mod EachTabLemmas
-- Which documents go, and what they leave.
pub mod LeavingLemmas
-- The law.
pub mod Isolated
mod NoCookieLemmas
mod SiteRunLemmas
pub mod GivenLemmas
pub mod OwnLemmas
pub mod UnaskedLemmas
mod StandApartLemmas
pub mod LocalScriptLemmas
-- Values worked out by hand.
pub mod StandardFacts
mod OpenerFacts
pub mod StorageFacts
mod BucketFacts
mod SessionFacts
pub mod GivenFacts
pub mod OpenedLemmas
mod CookieCellFacts
pub mod CookieRunFacts
mod CookieFacts
mod StorageAccessFacts
pub mod WidgetLemmas
pub mod GrantRunFacts
mod GrantGroupFacts
mod RuleFacts
