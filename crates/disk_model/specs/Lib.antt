-- What has to be believed: the calls of a disk, its images, and the disk in memory.
pub mod Disk
pub mod DiskLaws
pub mod Carried
pub mod Image
pub mod History
pub mod Recovery
pub mod Schedule
pub mod MemDisk
pub mod RawFile
-- What private functions keep, and laws that hold of each record. No public clause rests on it.
pub mod ImageLaws
pub mod Laws
pub mod MemLaws
pub mod Changes
pub mod MediumBuffers
pub mod TellsNothing
