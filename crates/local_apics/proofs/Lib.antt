pub mod Places
pub mod Ticks
pub mod Product
pub mod Joins
pub mod Mask
pub mod Done
pub mod Spans
pub mod Below
pub mod Unchanged
pub mod PowerOn
pub mod Keeps
pub mod Laws
mod Rows
