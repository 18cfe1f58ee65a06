pub mod CellLemmas
pub mod PersistentLaws
pub mod StepLaws
pub mod ValidLaws
mod RemovalLemmas
pub mod PutLemmas
mod NewCookieLemmas
pub mod PlanLemmas
pub mod PerformLemmas
mod SendingLemmas
pub mod MarkLemmas
mod OrderLemmas
mod HeaderLemmas
mod StandardFacts
mod DropFacts
mod JarFacts
mod StoreLemmas
mod UsedLemmas
