pub mod Hexes
pub mod Ups
mod Rows
pub mod Fronts
