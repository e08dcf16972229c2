-- What proofs and private contracts alone cite.
pub mod CheckEnd
pub mod Counted
pub mod Raced
