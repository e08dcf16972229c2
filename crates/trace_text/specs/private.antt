pub mod Spelled
pub mod Groups
pub mod State
pub mod Lines
pub mod Reads
pub mod Fronts
pub mod SetupLines
