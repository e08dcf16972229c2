mod Falls
mod Times
mod Evenly
pub mod Runs
mod Nexts
mod Rows
