-- What proofs and private contracts alone cite.
pub mod Closed
pub mod Ready
