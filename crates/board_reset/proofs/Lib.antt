pub mod Valid
mod Rows
