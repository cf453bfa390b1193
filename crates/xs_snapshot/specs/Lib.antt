pub mod Building
pub mod NextPiece
pub mod BuildingCodes
pub mod Restorable
pub mod Writing
pub mod SoFar
