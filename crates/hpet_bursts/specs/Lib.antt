pub mod Messages
pub mod Bursts
pub mod Next
pub mod private
