pub mod Pulses
pub mod Events
mod Rows
