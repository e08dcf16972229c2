pub mod ByLines
pub mod Cuts
pub mod Ends
pub mod Goings
pub mod Outcomes
pub mod Progresses
pub mod Rows
pub mod Written
