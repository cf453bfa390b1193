pub mod Reports
pub mod CommandLines
pub mod Computing
