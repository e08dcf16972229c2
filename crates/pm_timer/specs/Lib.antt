pub mod Parts
pub mod Stretch
pub mod Registers
pub mod private
