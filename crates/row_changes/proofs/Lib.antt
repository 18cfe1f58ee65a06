pub mod FieldLaws
pub mod NameLaws
pub mod RowLaws
pub mod KeyLemmas
pub mod HostLemmas
pub mod CookieLaws
pub mod ChangeLaws
pub mod BodyLaws
pub mod PieceLaws
pub mod SpelledLaws
pub mod UnderLaws
pub mod TextLemmas
pub mod WritingLemmas
pub mod StandardFacts
mod RowFacts
