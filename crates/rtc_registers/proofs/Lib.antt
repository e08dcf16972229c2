pub mod Bytes
pub mod Times
pub mod Flags
pub mod Planned
pub mod Writes
pub mod Lines
mod Rows
