-- What proofs and private contracts alone cite.
pub mod Seats
pub mod Tables
