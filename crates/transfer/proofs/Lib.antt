pub mod Publishing
pub mod Metered
pub mod GoingOn
mod Rows
