pub mod Bits
pub mod FoldLaws
pub mod CodeLaws
pub mod Cursors
pub mod KindLaws
pub mod Little
pub mod Loops
pub mod Pairs
mod Rows
