pub mod LabelLemmas
pub mod MatchLemmas
pub mod DomainLemmas
pub mod KeptLemmas
pub mod LookupLemmas
pub mod EndLemmas
pub mod PassLemmas
pub mod NoteLemmas
pub mod RuleLemmas
pub mod LineLemmas
mod StandardFacts
