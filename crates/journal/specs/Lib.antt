-- What has to be believed: the store file, what it stands for, its first fault, and a journal.
pub mod Frame
pub mod Store
pub mod Region
pub mod HeadFault
pub mod Opening
pub mod Journal
-- What private functions compute. No public clause rests on it.
pub mod Append
pub mod CheckpointParts
pub mod ReaderAnswers
