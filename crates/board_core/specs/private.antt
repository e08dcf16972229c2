-- What proofs and private contracts alone cite.
pub mod Kinds
pub mod Values
pub mod Places
pub mod Room
pub mod Calls
