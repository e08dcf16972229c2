pub mod Places
pub mod Parts
pub mod Nanosecond
pub mod Registers
pub mod View
pub mod private
