-- What contracts cite.
pub mod SessionView
pub mod Asked
pub mod Refusals
pub mod StandsFor
pub mod Between
pub mod Calls
pub mod Left
