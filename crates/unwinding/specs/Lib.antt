-- To be believed, in this order: the machine, the world, a site's local script, its own run.
pub mod Machine
pub mod World
pub mod LocalEntries
pub mod OneSite
pub mod Durable
pub mod Epochs
pub mod LocalScript
pub mod SiteRun
pub mod Admissible
pub mod Transcript
pub mod Setting
pub mod Laws
-- How little a local script holds.
pub mod LeftOut
pub mod HeldOnly
pub mod ScriptLaws
-- What a machine owes, and an example that has it.
pub mod Facts
pub mod Example
pub mod ExampleSetting
pub mod ExampleLaw
-- What a loop over the lines of a script keeps.
pub mod Course
pub mod CourseSteps
-- Two containers for a machine's shared cells.
pub mod FunctionCells
pub mod FiniteCells
