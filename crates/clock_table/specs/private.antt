-- What proofs and private contracts alone cite.
pub mod Rule
pub mod Plays
pub mod Laid
