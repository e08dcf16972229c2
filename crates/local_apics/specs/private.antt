-- What proofs and private contracts alone cite.
pub mod Mask
pub mod Span
pub mod Stretch
