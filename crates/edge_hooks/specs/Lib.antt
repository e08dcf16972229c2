pub mod Hooks
pub mod Messages
