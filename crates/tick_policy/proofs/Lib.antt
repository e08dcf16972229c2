pub mod Ticks
pub mod Stretches
pub mod Orders
pub mod Histories
pub mod Kept
mod Rows
