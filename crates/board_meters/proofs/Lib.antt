pub mod Times
pub mod Publishing
pub mod Taken
pub mod Moves
mod Rows
