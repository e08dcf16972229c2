pub mod EdgesOf
pub mod UpFrom
pub mod NextRise
pub mod RisesOf
mod Rows
pub mod OfLines
pub mod Rising
pub mod Sole
