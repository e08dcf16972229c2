pub mod Faults
pub mod Gates
pub mod Later
pub mod Rows
pub mod Three
