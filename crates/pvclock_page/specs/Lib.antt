pub mod Scale
pub mod Reading
pub mod Publish
pub mod Words
pub mod Guest
