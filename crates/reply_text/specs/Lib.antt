pub mod Words
pub mod Text
pub mod Soak
pub mod private
