pub mod Delivered
mod Rows
