-- The open tabs as a map, and where they are, after each call on the list of open tabs.
pub mod LiveLemmas
pub mod TabLemmas
-- The tab and the document that a line names.
pub mod FoundLemmas
-- What an action makes of what is held.
pub mod ShownLemmas
pub mod DoneLemmas
pub mod AccessLemmas
pub mod ActLemmas
-- What is written behind a body.
pub mod WritesLemmas
pub mod LoadWritesLemmas
pub mod RequestLemmas
-- Who hears of a change, and what is sent to them.
pub mod MemberLemmas
pub mod AudienceLemmas
pub mod SendLemmas
-- What is held after a change of an area.
pub mod WriteLemmas
-- The frames of each open tab.
pub mod TreeLemmas
pub mod FrameLemmas
pub mod InPlaceLemmas
-- Session areas belong to open tabs.
pub mod OwnedLemmas
pub mod LeavesLemmas
pub mod ActOwnedLemmas
-- Each line of the agent.
pub mod StandingLemmas
pub mod RunsLemmas
pub mod OpenRunsLemmas
pub mod BodyLemmas
