pub mod Text
pub mod Progress
pub mod Answered
pub mod ByLines
pub mod Outcome
pub mod Cut
pub mod Found
pub mod private
