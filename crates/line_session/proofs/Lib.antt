pub mod ReadingLemmas
pub mod SessionLemmas
pub mod RefusalLemmas
pub mod CallLemmas
pub mod LineLemmas
