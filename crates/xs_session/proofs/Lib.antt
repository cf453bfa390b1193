pub mod Answering
pub mod PlainRequests
pub mod OpenCommands
pub mod Placing
pub mod SessionSteps
pub mod Tests
pub mod ReadOnce
pub mod SpelledExamples
