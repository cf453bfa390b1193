pub mod Passing
pub mod Device
pub mod DeviceState
