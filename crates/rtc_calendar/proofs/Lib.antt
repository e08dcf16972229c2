pub mod Spellings
pub mod Moments
pub mod Times
pub mod Days
pub mod Next
mod Rows
