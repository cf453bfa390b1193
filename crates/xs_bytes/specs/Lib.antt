pub mod Number
pub mod Each
pub mod SortedMap
pub mod MapCode
pub mod MapOf
pub mod Stored
pub mod Examples
