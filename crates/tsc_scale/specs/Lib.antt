pub mod Ratio
pub mod Offset
pub mod Tsc
