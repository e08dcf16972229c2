pub mod Numbers
pub mod HexValues
pub mod Spells
pub mod Eights
pub mod FirstWord
pub mod Tokens
pub mod ShortWords
pub mod Letters
pub mod WordAt
pub mod States
mod Rows
pub mod Limits
pub mod NoRecord
pub mod UsualRows
pub mod Ports
pub mod Prefixes
