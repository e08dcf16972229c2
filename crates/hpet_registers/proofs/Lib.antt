pub mod Bits
pub mod Conditions
pub mod Faults
pub mod Product
pub mod After
pub mod Planned
pub mod Messages
pub mod Places
pub mod Laws
pub mod Halves
mod Rows
pub mod ThreeTimersLaw
