pub mod Tokens
pub mod Rows
pub mod Records
pub mod State
pub mod Header
pub mod Lines
pub mod private
