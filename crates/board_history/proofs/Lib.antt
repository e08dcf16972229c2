pub mod Pages
pub mod Laws
pub mod Refusals
mod Rows
mod RowsLegal
