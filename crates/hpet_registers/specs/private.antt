pub mod Matches
pub mod Plan
