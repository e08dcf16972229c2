pub mod Passes
pub mod Asks
pub mod Faults
pub mod Reads
pub mod Stops
pub mod Tries
pub mod private
