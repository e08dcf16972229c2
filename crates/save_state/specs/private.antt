pub mod Rows
pub mod Cursor
pub mod Front
pub mod Parts
pub mod Fits
pub mod Devices
