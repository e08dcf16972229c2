pub mod Scale
pub mod Time
pub mod Page
pub mod Words
pub mod Guest
