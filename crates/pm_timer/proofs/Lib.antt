pub mod Bits
pub mod Times
pub mod Writes
mod Rows
