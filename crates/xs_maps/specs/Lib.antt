pub mod Seen
pub mod Lends
pub mod Left
