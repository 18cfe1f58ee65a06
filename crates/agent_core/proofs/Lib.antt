-- What stores stand for, and what commits make of it.
mod RoomLemmas
mod StoreLemmas
-- The durable changes of a batch.
mod BatchLemmas
-- What an agent stands for.
mod SeenLemmas
mod CommitLemmas
mod OutcomeLemmas
-- Lines that ran.
mod RunLemmas
mod ReadLemmas
-- Openings.
mod OpeningLemmas
mod ResumeLemmas
mod RestartLemmas
mod FinishLemmas
mod LineLemmas
mod FlushLemmas
-- Checkpoints.
mod SnapshotLemmas
mod CheckpointLemmas
