pub mod Faults
pub mod Keeps
pub mod Times
pub mod Quiet
pub mod Joins
pub mod Periods
pub mod Divided
pub mod Square
pub mod Later
pub mod Planned
mod PartRows
mod Rows
