pub mod Parts
pub mod Stored
pub mod Line
pub mod Stretch
pub mod History
pub mod private
