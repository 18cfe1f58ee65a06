-- The pieces of a body.
mod BodyLemmas
-- What a row change makes of the parts.
mod EditLemmas
mod PieceLemmas
-- What written bodies mean.
mod BodyLaws
-- What a snapshot leads to.
mod LeadLemmas
mod TimesLemmas
mod AreaRowLemmas
mod CookieRowLemmas
mod SnapshotLaws
mod StorableLaws
mod SpelledLaws
-- What stays under another list.
pub mod MigrateLaws
mod StayingLemmas
-- What a snapshot lists.
mod CellTextLemmas
mod PushedLemmas
-- What is kept of a state.
mod KeptLemmas
mod WrittenLemmas
-- What a file stands for.
pub mod FileLemmas
-- What the bytes of a row change say.
mod SpellingLemmas
