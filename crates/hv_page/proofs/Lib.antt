pub mod Times
mod Guests
mod Rows
