pub mod Calls
pub mod Order
pub mod Parts
pub mod Phases
pub mod private
