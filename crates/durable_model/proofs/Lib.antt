-- Cells, and what is kept of them.
pub mod CellsLemmas
pub mod KeptCellLemmas
-- What row changes make of a site's rows and of a cell.
pub mod RowLemmas
pub mod CellRowLemmas
pub mod ChangedCellLemmas
-- One state for all sites, and what a site has of it.
pub mod ProjectLemmas
pub mod EachValidLemmas
pub mod FollowsLemmas
-- What each kind of action changes.
pub mod AreaLemmas
pub mod BucketLemmas
pub mod KeyOrderLemmas
pub mod EvictLemmas
pub mod GrantLemmas
pub mod StoredLemmas
pub mod StoreLemmas
pub mod UseLemmas
pub mod ActLemmas
-- Every event.
pub mod StepLemmas
pub mod WorldLemmas
-- Durable states that are valid.
pub mod ValidLemmas
pub mod NothingLemmas
-- What stays under another list.
pub mod MigrateLemmas
-- The facts that the general law asks.
pub mod FactLemmas
-- The laws.
pub mod HistoryLemmas
-- Values worked out by hand.
mod StandardFacts
