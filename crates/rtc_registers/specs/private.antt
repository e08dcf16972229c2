-- What only proofs and bodies need.
pub mod Plan
pub mod Stretch
pub mod Taken
