pub mod Seats
pub mod Fields
pub mod Made
pub mod Turns
pub mod Clocks
mod Tables
pub mod Ends
