pub mod Parts
pub mod Divider
pub mod private
