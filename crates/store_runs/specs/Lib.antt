-- What contracts cite.
pub mod Steps
pub mod Endings
pub mod Openings
pub mod Runs
pub mod Faults
pub mod CutBounds
pub mod Fronts
pub mod Tidy
pub mod Disks
pub mod Waiting
pub mod Answers
pub mod CutCourses
pub mod Courses
pub mod FaultCounts
pub mod Calls
pub mod Closing
pub mod Moments
