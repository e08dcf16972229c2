pub mod Counts
pub mod ReaderSteps
pub mod ReadyNext
mod Rows
mod SoakRows
pub mod Soaks
pub mod Statuses
pub mod Stays
pub mod WholeLines
