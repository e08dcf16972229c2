pub mod Parts
pub mod Pit
pub mod Ports
pub mod private
