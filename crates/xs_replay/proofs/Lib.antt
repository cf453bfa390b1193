pub mod Logs
pub mod Served
pub mod PiecesRead
pub mod Folders
pub mod SnapshotsRead
pub mod PiecesSpelled
pub mod InRange
pub mod Computing
