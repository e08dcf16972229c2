pub mod Setup
pub mod Legal
pub mod Reply
