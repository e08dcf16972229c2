pub mod Matches
pub mod Earlier
