pub mod Parts
pub mod Outputs
pub mod Register
pub mod Access
pub mod Stretch
pub mod ThreeTimers
pub mod private
