pub mod Emptiness
pub mod LineEnds
pub mod HeldLines
pub mod ScriptLines
pub mod ScriptHeadline
pub mod ScriptSteps
