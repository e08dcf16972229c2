pub mod Lengths
pub mod Steps
mod Rows
