pub mod Ratios
mod Rows
