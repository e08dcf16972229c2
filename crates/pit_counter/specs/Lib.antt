pub mod Mode
pub mod Count
pub mod Table
pub mod Programming
pub mod Reading
pub mod Parts
pub mod private
