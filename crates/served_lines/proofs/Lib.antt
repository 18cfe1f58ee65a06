pub mod WaitingLemmas
pub mod GivenLemmas
pub mod ServedLemmas
pub mod AnswerLemmas
pub mod DiskLemmas
