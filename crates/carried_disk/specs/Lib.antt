-- What has to be believed: the calls that are left, and the owner's file.
pub mod Calls
-- What private functions keep, and a law that holds of each such disk. No public clause rests on
-- it.
pub mod CallBuffers
pub mod CarriedLaws
