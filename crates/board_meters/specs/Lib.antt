pub mod Published
pub mod Meters
