pub mod Cause
pub mod Line
pub mod Answering
pub mod Script
pub mod ScriptRun
