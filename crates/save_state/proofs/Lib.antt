pub mod Formats
pub mod Names
pub mod BlockRows
pub mod Blocks
pub mod ApicLaws
pub mod Here
pub mod RoundTrip
pub mod Valid
mod Rows
mod Written
