pub mod Lines
pub mod Rises
pub mod private
