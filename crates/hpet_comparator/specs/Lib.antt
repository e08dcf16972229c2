pub mod Counter
pub mod Part
pub mod Parts
pub mod Config
pub mod Comparator
pub mod Stretch
pub mod private
