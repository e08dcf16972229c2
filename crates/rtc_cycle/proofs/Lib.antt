pub mod Pulse
pub mod Times
pub mod Recurs
pub mod Quiet
pub mod Writes
mod Rows
