-- The definitions, in the order in which they are read.
pub mod HeldAt
pub mod WholeWorld
pub mod Store
pub mod Refinement
