pub mod Counting
pub mod Halves
pub mod Writes
pub mod Steps
pub mod Rounds
pub mod Falls
pub mod Conditions
mod Rows
