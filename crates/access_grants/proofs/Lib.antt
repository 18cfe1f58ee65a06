mod StandardFacts
pub mod RowsLemmas
pub mod GrantLemmas
pub mod PartLemmas
pub mod IndexLemmas
pub mod NoteLemmas
pub mod MigrateLemmas
