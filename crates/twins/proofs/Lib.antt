pub mod CountLemmas
pub mod LeadLemmas
pub mod LineLemmas
pub mod NumberLemmas
pub mod PresentLemmas
pub mod RunLemmas
