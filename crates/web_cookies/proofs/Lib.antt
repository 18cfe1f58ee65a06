-- The order of keys, and what entries hold by plain keys.
pub mod OrderOfCells
pub mod CellLemmas
pub mod ChangeLemmas
-- What changes leave, and what was prepared for an effect.
pub mod LeftLemmas
pub mod HeaderLemmas
pub mod PreparedLemmas
-- Texts that are stored.
pub mod StepRows
pub mod PairLemmas
pub mod TextLemmas
mod InPlaceLemmas
-- Cookies at places of cells.
mod LimitLemmas
pub mod RowsLemmas
-- Values of the definitions.
mod StandardFacts
-- The cells that have cookies.
pub mod ListedLemmas
-- What stays under a list.
pub mod MigrateLemmas
