pub mod Draws
pub mod Text
pub mod Feed
pub mod private
