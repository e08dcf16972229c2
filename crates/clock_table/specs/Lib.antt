pub mod Words
pub mod Steps
pub mod Calls
pub mod Ends
pub mod private
