pub mod Scales
pub mod Shifts
pub mod Times
pub mod Fields
mod Rows
