pub mod Fold
pub mod Codes
pub mod Kinds
pub mod Reading
