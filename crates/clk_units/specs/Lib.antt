pub mod Bits
pub mod Ranges
pub mod Pulses
pub mod Events
