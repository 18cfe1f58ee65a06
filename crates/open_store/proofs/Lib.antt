pub mod StoreLemmas
pub mod ReopenLemmas
