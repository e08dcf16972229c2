pub mod Registers
pub mod Parts
pub mod Access
pub mod Pulses
pub mod private
