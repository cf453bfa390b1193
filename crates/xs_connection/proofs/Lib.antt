pub mod Arguments
pub mod Computing
pub mod SamePasswords
