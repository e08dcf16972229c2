-- What proofs and private contracts alone cite.
pub mod Workers
pub mod Ran
pub mod Told
pub mod Feed
pub mod Working
