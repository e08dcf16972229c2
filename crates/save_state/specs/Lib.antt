pub mod Rises
pub mod Fields
pub mod Places
pub mod Reading
pub mod Writing
pub mod Table
pub mod private
