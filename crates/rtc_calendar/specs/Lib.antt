pub mod Bytes
pub mod Calendar
pub mod Updates
pub mod Alarms
pub mod private
