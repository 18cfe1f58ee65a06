mod StandardFacts
pub mod SessionsLemmas
pub mod CopyLemmas
