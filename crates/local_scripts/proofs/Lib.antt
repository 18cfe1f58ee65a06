-- Items that are the same, and lists of them.
pub mod FrontLemmas
pub mod ActionLemmas
pub mod SameEventLemmas
-- The events of a line, and what they consult.
pub mod CellLemmas
pub mod EventLemmas
-- The entries of a line.
pub mod SeenLemmas
pub mod LawLemmas
