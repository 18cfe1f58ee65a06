pub mod StandardFacts
pub mod Past
pub mod Records
pub mod Placed
pub mod MemView
pub mod Recoveries
pub mod Plans
mod Pieces
mod Walks
mod WritingBack
