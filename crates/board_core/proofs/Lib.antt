pub mod Times
pub mod Rates
pub mod Timers
pub mod Nexts
pub mod ApicTimers
pub mod Joined
pub mod Steps
pub mod Metered
pub mod Upgrades
pub mod Counted
pub mod Kept
pub mod Looks
pub mod Laws
pub mod OfLines
pub mod Nanoseconds
pub mod Messages
pub mod Joins
pub mod Passive
pub mod LazySteps
mod Rows
mod RowsApics
mod RowsHv
mod RowsMessages
mod RowsNext
