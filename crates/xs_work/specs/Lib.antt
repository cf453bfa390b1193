pub mod Texts
pub mod Ahead
pub mod Gates
pub mod Workers
pub mod WorkOutcome
