pub mod Edges
pub mod Messages
pub mod Rows
