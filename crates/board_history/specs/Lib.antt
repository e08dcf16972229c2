pub mod Machine
pub mod History
pub mod Counts
pub mod private
