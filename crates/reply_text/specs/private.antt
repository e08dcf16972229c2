-- What proofs and private contracts alone cite.
pub mod Appended
pub mod Front
pub mod Readings
