pub mod WallTime
