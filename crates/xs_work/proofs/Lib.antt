pub mod WorkerEnds
pub mod AheadCalls
pub mod AheadSteps
pub mod AheadWork
