pub mod Alone
pub mod CheckQuiet
pub mod CheckReady
mod CheckRows
pub mod Counted
pub mod FileOrder
pub mod Pieces
pub mod Races
pub mod Replayed
mod Sayings
pub mod Sounds
pub mod Together
