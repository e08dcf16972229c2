pub mod Alike
pub mod Answered
pub mod Checked
pub mod Counts
pub mod Ended
pub mod Gathered
pub mod Going
pub mod Parts
pub mod Pieces
pub mod Runs
pub mod Same
pub mod Settle
pub mod Steps
pub mod Taken
pub mod Unread
pub mod Workers
mod Rows
