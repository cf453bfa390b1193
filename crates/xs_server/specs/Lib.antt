pub mod Report
pub mod CommandLine
pub mod ExamplesReport
