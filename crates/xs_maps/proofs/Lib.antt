pub mod Places
pub mod Sorted
pub mod Spans
